-- Laws of the decoded sums. Assumes nothing.
use Rattle.std.proofs.Common.{◌≡◌, ℕ, zero, suc, ◌+◌, ◌<◌, ◌≤◌, min, ◌⊎◌, inl, inr, List, [], ◌∷◌, length, get_or, take, set, Option, Some, None, sym, refl, ap, ◌∙◌, arith}
use lib.Ieee.{Float, nan}
use Rattle.std.specs.List.{slice_get}
use Rattle.std.proofs.lemmas.List.{take_all, set-get_or}
use Rattle.numeric.specs.Interval.{Interval, interpolate}
use Rattle.numeric.specs.Lists.{pairs_of}
use Rattle.function.specs.Outputs.{over}
use Rattle.function.proofs.Writing.{over_more, over_all}
use Rattle.sampled.specs.Sampled.{decoded}
use Rattle.sampled.specs.Sampled as sampled

-- as many outputs as Decode pairs, where there are as many sums
pub decoded_length : (top : Float) (ds : List Interval) (ys : List Float) → length ys ≡ length ds → length (decoded top ds ys) ≡ length ds
decoded_length top [] ys e = refl
decoded_length top (d ∷ ds) [] e = omega arith
decoded_length top (d ∷ ds) (y ∷ ys) e = ap suc (decoded_length top ds ys (omega arith))

-- no more than there are Decode pairs, or sums
pub decoded_short : (top : Float) (ds : List Interval) (ys : List Float) → length (decoded top ds ys) ≤ min (length ds) (length ys)
decoded_short top [] ys = omega arith
decoded_short top (d ∷ ds) [] = omega arith
decoded_short top (d ∷ ds) (y ∷ ys) = omega (arith, decoded_short top ds ys)

decoded_at : (top : Float) (ds : List Interval) (ys : List Float) (i : ℕ) (d : Interval) (y : Float) → Some d ≡ slice_get ds i → Some y ≡ slice_get ys i
    → (i < length (decoded top ds ys)) × (interpolate y (sampled.zero, top) d ≡ get_or (decoded top ds ys) i nan)
decoded_at top [] ys i d y e h = cc
decoded_at top (p ∷ ds) [] i d y e h = cc
decoded_at top (p ∷ ds) (z ∷ ys) zero d y e h = let pair : d ≡ p = cc in let sum : y ≡ z = cc in (omega arith, ap (λ (x : Float). interpolate x (sampled.zero, top) d) sum ∙ ap (interpolate z (sampled.zero, top)) pair)
decoded_at top (p ∷ ds) (z ∷ ys) (suc i) d y e h = let r = decoded_at top ds ys i d y e h in (omega (arith, r.0), r.1)

decoded_stop : (top : Float) (ds : List Interval) (ys : List Float) (i : ℕ) → (None ≡ slice_get ds i) ⊎ (None ≡ slice_get ys i) → length (decoded top ds ys) ≤ i
decoded_stop top [] ys i e = omega arith
decoded_stop top (d ∷ ds) [] i e = omega arith
decoded_stop top (d ∷ ds) (y ∷ ys) zero (inl e) = cc
decoded_stop top (d ∷ ds) (y ∷ ys) zero (inr e) = cc
decoded_stop top (d ∷ ds) (y ∷ ys) (suc i) e = omega (arith, decoded_stop top ds ys i e)

-- an output by the sum and the pair that it may have
abbrev pub decode_by : Float → Option Float → Option Interval → Float → Float
decode_by top None d v = v
decode_by top (Some y) None v = v
decode_by top (Some y) (Some d) v = interpolate y (sampled.zero, top) d

-- a loop that writes the decoded sums over `old` has come to i
module _ (top : Float) (decode ys old new : List Float) (i : ℕ) (inv : new ≡ over (take i (decoded top (pairs_of decode) ys)) old) where
  pub decoded_more : (after : List Float) → i < length old → after ≡ set new i (decode_by top (slice_get ys i) (slice_get (pairs_of decode) i) (get_or new i nan)) → after ≡ over (take (i + 1) (decoded top (pairs_of decode) ys)) old
  decoded_more after h is = is ∙ put (slice_get ys i) (slice_get (pairs_of decode) i) refl refl
    where
      all : List Float
      all = decoded top (pairs_of decode) ys

      past : (None ≡ slice_get (pairs_of decode) i) ⊎ (None ≡ slice_get ys i) → set new i (get_or new i nan) ≡ over (take (i + 1) all) old
      past e =
          let stop = decoded_stop top (pairs_of decode) ys i e in
          set-get_or new i nan ∙ inv ∙ ap (λ (zs : List Float). over zs old) (take_all i all stop ∙ sym (take_all (i + 1) all (omega arith)))

      put : (y : Option Float) (d : Option Interval) → slice_get ys i ≡ y → slice_get (pairs_of decode) i ≡ d → set new i (decode_by top y d (get_or new i nan)) ≡ over (take (i + 1) all) old
      put None d e f = past (inr (sym e))
      put (Some y) None e f = past (inl (sym f))
      put (Some y) (Some d) e f =
          let here = decoded_at top (pairs_of decode) ys i d y (sym f) (sym e) in
          ap (λ (z : Float). set new i z) here.1 ∙ ap (λ (zs : List Float). set zs i (get_or all i nan)) inv ∙ over_more all old i nan here.0 h

  pub decoded_all : length old ≤ i → new ≡ over (decoded top (pairs_of decode) ys) old
  decoded_all h = inv ∙ over_all (decoded top (pairs_of decode) ys) old i (omega arith)

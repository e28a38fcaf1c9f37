-- Laws of clamping the first input and the front of a list. Assumes nothing.
use Rattle.std.proofs.Common.{◌≡◌, ℕ, min, List, [], ◌∷◌, ◌++◌, length, take, drop, None, sym, refl, ap, ◌∙◌, arith, length-take}
use Rattle.std.proofs.lemmas.List.{take_min}
use lib.Ieee.{Float, nan}
use Rattle.std.specs.List.{slice_get}
use Rattle.numeric.specs.Interval.{Interval, clamp, clamp_all}
use Rattle.numeric.proofs.Ranges.{length_clamp_all}
use Rattle.function.specs.Answer.{first}
use Rattle.function.specs.Outputs.{over}
use Rattle.function.proofs.Writing.{over_fits}

pub first_none : (ps : List Interval) (xs : List Float) → None ≡ slice_get xs 0 → nan ≡ first (clamp_all ps xs)
first_none [] [] e = refl
first_none (p ∷ ps) [] e = refl
first_none ps (x ∷ xs) e = cc

-- the front, clamped in place
pub front_clamped : (ps : List Interval) (ys : List Float) (count end : ℕ) → end ≡ min count (length ys) → clamp_all ps (take end ys) ++ drop end ys ≡ over (clamp_all ps (take count ys)) ys
front_clamped ps ys count end e =
    let front = clamp_all ps (take count ys) in
    let long : length front ≡ end = length_clamp_all ps (take count ys) ∙ length-take count ys ∙ sym e in
    rw (over_fits front ys (omega (arith, long, e)), long, e, take_min) refl

-- clamping what was just written
pub over_clamped : (ps : List Interval) (new old : List Float) → over (clamp_all ps (take (length new) (over new old))) (over new old) ≡ over (clamp_all ps new) old
over_clamped [] [] old = refl
over_clamped (p ∷ ps) [] old = refl
over_clamped [] (x ∷ xs) [] = refl
over_clamped (p ∷ ps) (x ∷ xs) [] = refl
over_clamped [] (x ∷ xs) (y ∷ ys) = ap (λ zs. x ∷ zs) (over_clamped [] xs ys)
over_clamped (p ∷ ps) (x ∷ xs) (y ∷ ys) = ap (λ zs. clamp p x ∷ zs) (over_clamped ps xs ys)

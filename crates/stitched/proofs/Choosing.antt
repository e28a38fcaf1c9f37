-- Which part an input goes to. Assumes nothing.
use Rattle.std.proofs.Common.{◌≡◌, ℕ, T, zero, suc, ◌+◌, ◌-◌, ◌<◌, ◌≤◌, true, false, cond, List, [], ◌∷◌, length, get_or, sym, refl, ap, ◌∙◌, inl, inr, arith}
use lib.Ieee.{Float, nan, binary32, fits, of_bits, lt, to_unsigned}
use Rattle.std.specs.List.{position_or_len, position, slice_get}
use Rattle.std.specs.Option.{unwrap_or}
use Rattle.std.proofs.Math.Seq.{get_or-append_seam}
use Rattle.std.proofs.lemmas.List.{get_or_past, get_or_append_left}
use Rattle.std.proofs.lemmas.List.Recursion.{is_position_or_len}
use Rattle.std.proofs.lemmas.List.Sums.{prefix_len-le-length, fails_before_first, passes_at_first}
use Rattle.std.proofs.lemmas.Bool.{cases_lt, false≢true}
use Rattle.numeric.specs.Interval.{Interval}
use Rattle.numeric.specs.Lists.{pairs_of}
use Rattle.numeric.specs.Whole.{cut_unsigned}
use Rattle.std.proofs.lemmas.Option.{unwrap_or-slice_get}
use Rattle.units.proofs.Nans.{nan_is}
use Rattle.stitched.specs.Stitched.{full_bounds, pick}

pub pick_position : (bounds : List Float) (x : Float) → pick bounds x ≡ position_or_len (λ b. lt x b) bounds
pick_position bounds x = is_position_or_len (λ bs. pick bs x) (λ b. lt x b) refl (λ b bs. ap (cond (lt x b) 0) (omega arith)) bounds

pub pick_within : (bounds : List Float) (x : Float) → pick bounds x ≤ length bounds
pick_within bounds x = rw pick_position (prefix_len-le-length _ bounds)

pub pick_found : (bounds : List Float) (x : Float) → unwrap_or (position (λ b. lt x b) bounds) (length bounds) ≡ pick bounds x
pick_found bounds x = grind (arith, pick_position bounds x, pick_within bounds x)

-- x lies above or on each bound before the chosen part, and below the one behind it
pub pick_passed : (bounds : List Float) (x : Float) (i : ℕ) → i < pick bounds x → lt x (get_or bounds i nan) ≡ false
pick_passed bounds x i h = fails_before_first (λ b. lt x b) bounds i nan (rw pick_position at h)

pub pick_stops : (bounds : List Float) (x : Float) → pick bounds x < length bounds → lt x (get_or bounds (pick bounds x) nan) ≡ true
pick_stops bounds x h = rw pick_position (passes_at_first (λ b. lt x b) bounds nan (rw pick_position at h))

pub pick_last : (bounds : List Float) (x : Float) → ((i : ℕ) → i < length bounds → lt x (get_or bounds i nan) ≡ false) → pick bounds x ≡ length bounds
pick_last bounds x f =
    elim (cases_lt (pick bounds x) (length bounds)) [
      | inl h ↦ absurd (false≢true (sym (f (pick bounds x) h) ∙ pick_stops bounds x h))
      | inr h ↦ let k = pick_within bounds x in omega arith
    ]

-- the pair i, two NaNs where there is none
pub default_pair : (ps : List Interval) (i : ℕ) → unwrap_or (slice_get ps i) (of_bits binary32 0x7fc0_0000, of_bits binary32 0x7fc0_0000) ≡ get_or ps i (nan, nan)
default_pair ps i = rw nan_is (unwrap_or-slice_get ps i (nan, nan))

-- the pairs that lie in a list are of numbers of its format
pub pairs_fit : (xs : List Float) → ((i : ℕ) → T (fits binary32 (get_or xs i nan))) → (i : ℕ) → T (fits binary32 (get_or (pairs_of xs) i (nan, nan)).0) × T (fits binary32 (get_or (pairs_of xs) i (nan, nan)).1)
pairs_fit [] f i = (f 0, f 0)
pairs_fit (a ∷ []) f i = (f 1, f 1)
pairs_fit (a ∷ b ∷ xs) f zero = (f 0, f 1)
pairs_fit (a ∷ b ∷ xs) f (suc i) = pairs_fit xs (λ k. f (suc (suc k))) i

-- no part has the index 0 by default
pub part_none : (parts : List Float) (i : ℕ) → length parts ≤ i → 0 ≡ cut_unsigned 32 (get_or parts i nan)
unfolding to_unsigned
part_none parts i h = sym (ap (cut_unsigned 32) (get_or_past parts i nan h))

-- ---- the full bounds

module _ (domain : Interval) (bounds : List Float) where
  pub full_inner : (i : ℕ) → 0 < i → i ≤ length bounds → get_or bounds (i - 1) nan ≡ get_or (full_bounds domain bounds) i nan
  full_inner zero h k = absurd (omega arith)
  full_inner (suc i) h k =
      let e : suc i - 1 ≡ i = omega arith in
      ap (λ (n : ℕ). get_or bounds n nan) e ∙ sym (get_or_append_left bounds _ nan i (omega arith))

  pub full_last : (i : ℕ) → i ≡ length bounds + 1 → get_or (full_bounds domain bounds) i nan ≡ get_or (full_bounds domain []) 1 nan
  full_last zero e = absurd (omega arith)
  full_last (suc i) e =
      let n : i ≡ length bounds = omega arith in
      rw n (get_or-append_seam bounds _ [] nan)

-- Bounds that do not fall. Assumes nothing.
use Rattle.std.proofs.Common.{◌≡◌, ℕ, zero, suc, ◌+◌, ◌<◌, ◌≤◌, Bool, true, false, ◌&&◌, List, [], ◌∷◌, length, get_or, cond, ◌||◌, Some, None, inl, inr, sym, refl, ◌∙◌, arith}
use lib.Ieee.{Float, nan, le, lt, eq}
use Rattle.std.specs.List.{list_all, AllAdjacentBelow}
use Rattle.std.specs.Ordering.{partial_le, float_partial_cmp, is_le, is_some_and}
use Rattle.std.specs.declared.cmp.Ordering.TheVariants.{Less, Equal, Greater}
use Rattle.std.proofs.lemmas.List.Recursion.{and_at, and_from_places}
use Rattle.std.proofs.lemmas.Bool.{and_parts, and_from, cases_Bool, true≢false}
use Rattle.numeric.specs.Interval.{within}
use Rattle.numeric.proofs.Comparing.{le_trans, le_numbers}
use Rattle.numeric.proofs.Inside.{le_refl}
use Rattle.stitched.specs.Stitched.{bounds_rise}

parts : (low high b : Float) (bs : List Float) → bounds_rise low high (b ∷ bs) ≡ true → (le low b ≡ true) × (le b high ≡ true) × (bounds_rise b high bs ≡ true)
parts low high b bs r =
    let k = and_parts (le low b) (le b high && bounds_rise b high bs) r in
    let l = and_parts (le b high) (bounds_rise b high bs) k.1 in
    (k.0, l.0, l.1)

pub bound_low : (low high : Float) (bs : List Float) (i : ℕ) → bounds_rise low high bs ≡ true → i < length bs → le low (get_or bs i nan) ≡ true
bound_low low high [] i r h = absurd (omega arith)
bound_low low high (b ∷ bs) zero r h = (parts low high b bs r).0
bound_low low high (b ∷ bs) (suc i) r h =
    let p = parts low high b bs r in
    le_trans low b (get_or bs i nan) p.0 (bound_low b high bs i p.2 (omega arith))

pub bound_high : (low high : Float) (bs : List Float) (i : ℕ) → bounds_rise low high bs ≡ true → i < length bs → le (get_or bs i nan) high ≡ true
bound_high low high [] i r h = absurd (omega arith)
bound_high low high (b ∷ bs) zero r h = (parts low high b bs r).1
bound_high low high (b ∷ bs) (suc i) r h = bound_high b high bs i (parts low high b bs r).2 (omega arith)

pub bound_bound : (low high : Float) (bs : List Float) (i j : ℕ) → bounds_rise low high bs ≡ true → i ≤ j → j < length bs → le (get_or bs i nan) (get_or bs j nan) ≡ true
bound_bound low high [] i j r l h = absurd (omega arith)
bound_bound low high (b ∷ bs) zero zero r l h = le_refl b (le_numbers b high (parts low high b bs r).1).0
bound_bound low high (b ∷ bs) zero (suc j) r l h = bound_low b high bs j (parts low high b bs r).2 (omega arith)
bound_bound low high (b ∷ bs) (suc i) zero r l h = absurd (omega arith)
bound_bound low high (b ∷ bs) (suc i) (suc j) r l h = bound_bound b high bs i j (parts low high b bs r).2 (omega arith) (omega arith)

-- ---- as the code tests them: each is at most the next, and each lies from `low` to `high`

le_partial : (x y : Float) → partial_le float_partial_cmp x y ≡ le x y
unfolding le
le_partial x y = go (lt x y) (eq x y) (lt y x)
  where
    go : (a b c : Bool) → is_some_and is_le (cond a (Some Less) (cond b (Some Equal) (cond c (Some Greater) None))) ≡ (a || b)
    go true b c = refl
    go false true c = refl
    go false false true = refl
    go false false false = refl

abbrev Neighbours : List Float → Type 0
Neighbours bs = AllAdjacentBelow (λ x y. partial_le float_partial_cmp x y ≡ true) bs (length bs)

rise_from : (low high : Float) (bs : List Float) → (0 < length bs → le low (get_or bs 0 nan) ≡ true) → Neighbours bs → ((k : ℕ) → k < length bs → le (get_or bs k nan) high ≡ true) → bounds_rise low high bs ≡ true
rise_from low high [] first next top = refl
rise_from low high (b ∷ bs) first next top =
    and_from _ _ (first (omega arith)) (and_from _ _ (top 0 (omega arith))
    (rise_from b high bs (λ h. sym (le_partial b (get_or bs 0 nan)) ∙ next 0 nan (omega arith)) (λ k d h. later k d (next (suc k) d (omega arith))) (λ k h. top (suc k) (omega arith))))
  where
    later : (k : ℕ) (d : Float) → partial_le float_partial_cmp (get_or (b ∷ bs) (suc k) d) (get_or (b ∷ bs) (suc k + 1) d) ≡ true → partial_le float_partial_cmp (get_or bs k d) (get_or bs (k + 1) d) ≡ true
    later k d e = let n : suc k + 1 ≡ suc (k + 1) = omega arith in rw n at e

module _ (low high : Float) (bs : List Float) (next : Neighbours bs) where
  abbrev inside : List Float → Bool
  inside = list_all (within (low, high))

  at : inside bs ≡ true → (i : ℕ) → i < length bs → (le low (get_or bs i nan) ≡ true) × (le (get_or bs i nan) high ≡ true)
  at a i h = and_parts _ _ (and_at inside (within (low, high)) refl (λ _ _. refl) bs i nan h a)

  rises : inside bs ≡ true → bounds_rise low high bs ≡ true
  rises a = rise_from low high bs (λ h. (at a 0 h).0) next (λ k h. (at a k h).1)

  pub sorted_rise : inside bs ≡ bounds_rise low high bs
  sorted_rise =
      elim (cases_Bool (bounds_rise low high bs)) [
        | inl t ↦ and_from_places inside (within (low, high)) refl (λ _ _. refl) bs nan (λ i h. and_from _ _ (bound_low low high bs i t h) (bound_high low high bs i t h)) ∙ sym t
        | inr f ↦ elim (cases_Bool (inside bs)) [ inl a ↦ absurd (true≢false (sym (rises a) ∙ f)) | inr a ↦ a ∙ sym f ]
      ]

pub unsorted_falls : (low high : Float) (bs : List Float) (k : ℕ) → k + 1 < length bs → partial_le float_partial_cmp (get_or bs k nan) (get_or bs (k + 1) nan) ≡ false → false ≡ bounds_rise low high bs
unsorted_falls low high bs k h e =
    elim (cases_Bool (bounds_rise low high bs)) [
      | inl t ↦ absurd (true≢false (sym (le_partial _ _ ∙ bound_bound low high bs k (k + 1) t (omega arith) h) ∙ e))
      | inr f ↦ sym f
    ]

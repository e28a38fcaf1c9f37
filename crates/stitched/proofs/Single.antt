-- An input of the Domain belongs to one part, and that is the one which is chosen. Assumes nothing.
use Rattle.std.proofs.Common.{◌≡◌, ℕ, suc, ◌-◌, ◌<◌, ◌≤◌, Bool, true, false, ◌&&◌, T, eqb, leb, ◌⊎◌, List, [], ◌∷◌, length, get_or, sym, ap, ◌∙◌, subst, inl, inr, arith}
use lib.Ieee.{Float, nan, binary32, add, sub, lt, le, eq, fits, is_nan}
use lib.Ieee.Bits.{is_true}
use Rattle.std.specs.Float.{float_is_finite}
use Rattle.std.proofs.lemmas.Float.{T_from_true}
use Rattle.std.proofs.lemmas.Float as order
use Rattle.std.proofs.lemmas.Bool.{cases_Bool, cases_lt, cases_order, and_parts, and_from, and_left, and_right, le-leb, lt-leb, eq-eqb, ne_eqb, cond-true, cond-false, false≢true}
use Rattle.numeric.specs.Interval.{Interval, ordered, within, clamp_all}
use Rattle.numeric.proofs.Comparing.{le_trans, le_not_lt, eq_le, lt_from, le_numbers}
use Rattle.numeric.proofs.Inside.{le_of_not_lt, clamp_within}
use Rattle.function.specs.Answer.{first}
use Rattle.stitched.specs.Stitched.{bounds_rise, full_bounds, pick, belongs, hair, first_pair, OnlyPart, OnlyStretch}
use Rattle.stitched.proofs.Choosing.{pick_within, pick_passed, pick_stops, pick_last, full_inner, full_last}
use Rattle.stitched.proofs.Rising.{bound_high, bound_bound}
use Rattle.stitched.proofs.Widening.{below_itself, above_itself}

-- x < y ≤ z
lt_le : (x y z : Float) → lt x y ≡ true → le y z ≡ true → lt x z ≡ true
lt_le x y z h k = is_true (lt x z) (order.lt_of_lt_of_le x y z (T_from_true (lt x y) h) (T_from_true (le y z) k))

module _ (domain : Interval) (bounds : List Float) (x : Float) (low_fits : T (fits binary32 domain.0)) (high_fits : T (fits binary32 domain.1))
    (tidy : ordered domain ≡ true) (rise : bounds_rise domain.0 domain.1 bounds ≡ true) (in-domain : within domain x ≡ true) where
  abbrev a : Float
  a = domain.0

  abbrev b : Float
  b = domain.1

  abbrev k : ℕ
  k = pick bounds x

  abbrev full : ℕ → Float
  full i = get_or (full_bounds domain bounds) i nan

  ends_finite : (float_is_finite a ≡ true) × (float_is_finite b ≡ true)
  ends_finite = and_parts (float_is_finite a) (float_is_finite b) (and_parts (float_is_finite a && float_is_finite b) (le a b) tidy).0

  from_low : le a x ≡ true
  from_low = (and_parts (le a x) (le x b) in-domain).0

  to_high : le x b ≡ true
  to_high = (and_parts (le a x) (le x b) in-domain).1

  number : is_nan x ≡ false
  number = (le_numbers a x from_low).1

  number_at : (i : ℕ) → i < length bounds → is_nan (get_or bounds i nan) ≡ false
  number_at i h = (le_numbers (get_or bounds i nan) b (bound_high a b bounds i rise h)).0

  -- the Domain's second number belongs to the last part
  at_high : eq x b ≡ true → k ≡ length bounds
  at_high e = pick_last bounds x (λ i h. le_not_lt x (get_or bounds i nan) (le_trans (get_or bounds i nan) b x (bound_high a b bounds i rise h) (eq_le x b e)))

  -- the stretch of the chosen part holds x
  above_lower : le (full k) x ≡ true
  above_lower =
      elim (cases_lt 0 k) [
        | inl h ↦
            let w = pick_within bounds x in
            let j : k - 1 < length bounds = omega arith in
            subst (λ (y : Float). le y x ≡ true) (full_inner domain bounds k h w) (le_of_not_lt x (get_or bounds (k - 1) nan) number (number_at (k - 1) j) (pick_passed bounds x (k - 1) (omega arith)))
        | inr h ↦
            let z : 0 ≡ k = omega arith in
            subst (λ (n : ℕ). le (full n) x ≡ true) z (le_trans (sub binary32 a hair) a x (below_itself a ends_finite.0 low_fits) from_low)
      ]

  below_upper : eq x b ≡ false → lt x (full (suc k)) ≡ true
  below_upper e =
      let w = pick_within bounds x in
      elim (cases_lt k (length bounds)) [
        | inl h ↦
            let s : suc k - 1 ≡ k = omega arith in
            subst (λ (y : Float). lt x y ≡ true) (ap (λ (n : ℕ). get_or bounds n nan) (sym s) ∙ full_inner domain bounds (suc k) (omega arith) (omega arith)) (pick_stops bounds x h)
        | inr h ↦
            subst (λ (y : Float). lt x y ≡ true) (sym (full_last domain bounds (suc k) (omega arith)))
            (lt_le x b (add binary32 b hair) (lt_from x b to_high e) (above_itself b ends_finite.1 high_fits))
      ]

  -- and no other does
  not_before : (i : ℕ) → i < k → lt x (full (suc i)) ≡ false
  not_before i h =
      let w = pick_within bounds x in
      let s : suc i - 1 ≡ i = omega arith in
      subst (λ (y : Float). lt x y ≡ false) (ap (λ (n : ℕ). get_or bounds n nan) (sym s) ∙ full_inner domain bounds (suc i) (omega arith) (omega arith)) (pick_passed bounds x i h)

  not_behind : (i : ℕ) → k < i → i ≤ length bounds → le (full i) x ≡ false
  not_behind i h l =
      let j = i - 1 in
      let past : lt x (get_or bounds j nan) ≡ true =
      lt_le x (get_or bounds k nan) (get_or bounds j nan) (pick_stops bounds x (omega arith)) (bound_bound a b bounds k j rise (omega arith) (omega arith)) in
      subst (λ (y : Float). le y x ≡ false) (full_inner domain bounds i (omega arith) l)
      (elim (cases_Bool (le (get_or bounds j nan) x)) [
        | inl t ↦ absurd (false≢true (sym (le_not_lt x (get_or bounds j nan) t) ∙ past))
        | inr t ↦ t
      ])

  abbrev holds : ℕ → Bool
  holds i = leb i (length bounds) && (le (full i) x && lt x (full (suc i)))

  held : (i : ℕ) → eq x b ≡ false → holds i ≡ eqb i k
  held i e =
      elim (cases_order i k) [
        | inl s ↦
            let w = pick_within bounds x in
            let here : holds k ≡ true = and_from (leb k (length bounds)) (le (full k) x && lt x (full (suc k))) (le-leb k (length bounds) w) (and_from (le (full k) x) (lt x (full (suc k))) above_lower (below_upper e)) in
            ap holds s ∙ here ∙ sym (eq-eqb i k s)
        | inr o ↦
            other o (ne_eqb i k (λ s. elim o [ inl h ↦ omega arith | inr h ↦ omega arith ]))
      ]
    where
      other : (i < k) ⊎ (k < i) → eqb i k ≡ false → holds i ≡ eqb i k
      other (inl h) n = and_right (leb i (length bounds)) (le (full i) x && lt x (full (suc i))) (and_right (le (full i) x) (lt x (full (suc i))) (not_before i h)) ∙ sym n
      other (inr h) n =
          elim (cases_lt (length bounds) i) [
            | inl l ↦ and_left (leb i (length bounds)) (le (full i) x && lt x (full (suc i))) (lt-leb i (length bounds) l) ∙ sym n
            | inr l ↦ and_right (leb i (length bounds)) (le (full i) x && lt x (full (suc i))) (and_left (le (full i) x) (lt x (full (suc i))) (not_behind i h l)) ∙ sym n
          ]

  pub belongs_once : (i : ℕ) → belongs domain bounds x i ≡ eqb i k
  belongs_once i =
      elim (cases_Bool (eq x b)) [
        | inl e ↦ cond-true (eq x b) (eqb i (length bounds)) (holds i) e ∙ ap (eqb i) (sym (at_high e))
        | inr e ↦ cond-false (eq x b) (eqb i (length bounds)) (holds i) e ∙ held i e
      ]

pub only_part : (bounds : List Float) (x : Float) (r : ℕ) → r ≡ pick bounds x → OnlyPart bounds x r
only_part bounds x r e domain p q o rise w i = belongs_once domain bounds x p q o rise w i ∙ ap (eqb i) (sym e)

-- the same of the first input, clamped
pub only_stretch : (domain : List Interval) (bounds inputs : List Float) (x : Float) (r : ℕ) → T (fits binary32 (first_pair domain).0) → T (fits binary32 (first_pair domain).1)
    → x ≡ first (clamp_all domain inputs) → OnlyPart bounds x r → OnlyStretch domain bounds inputs r
unfolding float_is_finite
only_stretch domain bounds inputs x r p q e only o rise some =
    subst (λ (y : Float). (i : ℕ) → belongs (first_pair domain) bounds y i ≡ eqb i r) e
    (only (first_pair domain) p q o rise (subst (λ (y : Float). within (first_pair domain) y ≡ true) (sym e) (clamped domain inputs o some)))
  where
    clamped : (domain : List Interval) (inputs : List Float) → ordered (first_pair domain) ≡ true → 0 < length inputs → within (first_pair domain) (first (clamp_all domain inputs)) ≡ true
    clamped domain [] o h = absurd (omega arith)
    clamped [] (v ∷ vs) o h = absurd (false≢true o)
    clamped (d ∷ ds) (v ∷ vs) o h = clamp_within d.0 d.1 v o

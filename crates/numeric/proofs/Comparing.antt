-- The order of all floats, in tests that come out true or false: what the library says of it, and that it is the order of the numbers that they stand for. Assumes nothing.
use Rattle.std.proofs.Common.{◌≡◌, ℕ, ◌+◌, ◌*◌, ◌<◌, ◌≤◌, Bool, true, false, ◌&&◌, ◌||◌, eqb, ltb, sym, refl, ap, ◌∙◌, subst, inl, inr, mul-le-mul_right, eq-zero-or-pos, mul-pos, zero-mul, arith}
use lib.Ieee.{Float, nan, inf, fin, up, down, below, level, lt, le, eq, is_nan}
use lib.Ieee.Bits.{is_true}
use lib.Ieee.Exact.{HasValue}
use lib.Ieee.Fits.{down_pos}
use lib.Ieee.Order.{transfer}
use Rattle.std.proofs.lemmas.Float.{T_from_true}
use Rattle.std.proofs.lemmas.Float as order
use Rattle.std.proofs.lemmas.Bool.{lt-ltb, eq-eqb, cases_lt, cases_Bool, and_from, or_left, or_right, not-true, false≢true}

pub le_trans : (x y z : Float) → le x y ≡ true → le y z ≡ true → le x z ≡ true
le_trans x y z h k = is_true (le x z) (order.le_trans x y z (T_from_true (le x y) h) (T_from_true (le y z) k))

pub le_not_lt : (x y : Float) → le y x ≡ true → lt x y ≡ false
le_not_lt x y h =
    elim (cases_Bool (lt x y)) [
      | inl l ↦ absurd (order.lt_irrefl y (order.lt_of_le_of_lt y x y (T_from_true (le y x) h) (T_from_true (lt x y) l)))
      | inr n ↦ n
    ]

pub eq_le : (x y : Float) → eq x y ≡ true → le y x ≡ true
eq_le x y h = is_true (le y x) (order.le_of_eq y x (order.eq_flip x y (T_from_true (eq x y) h)))

-- what is at most y and not equal to it lies below it
pub lt_from : (x y : Float) → le x y ≡ true → eq x y ≡ false → lt x y ≡ true
lt_from x y h k = elim (order.lt-or-eq x y (T_from_true (le x y) h)) [ inl l ↦ is_true (lt x y) l | inr e ↦ absurd (false≢true (sym k ∙ is_true (eq x y) e)) ]

-- a comparison says that both are numbers
pub le_numbers : (x y : Float) → le x y ≡ true → (is_nan x ≡ false) × (is_nan y ≡ false)
le_numbers x y h =
    let l = T_from_true (le x y) h in
    (not-true (is_nan x) (is_true _ (order.le_left x y l)), not-true (is_nan y) (is_true _ (order.le_right x y l)))

-- ---- ±a ≤ ±b as a fact of numbers

abbrev pub Le : Bool → ℕ → Bool → ℕ → Type 0
Le false a false b = a ≤ b
Le false a true b = a + b ≤ 0
Le true a false b = Unit {0}
Le true a true b = b ≤ a

abbrev at_most : Bool → ℕ → Bool → ℕ → Bool
at_most s a t b = below s a t b || level s a t b

from-Le : (s : Bool) (a : ℕ) (t : Bool) (b : ℕ) → Le s a t b → at_most s a t b ≡ true
from-Le false a false b h =
    elim (cases_lt a b) [ inl l ↦ or_left (ltb a b) (eqb a b && true) (lt-ltb a b l) | inr g ↦ or_right (ltb a b) (eqb a b && true) (and_from (eqb a b) true (eq-eqb a b (omega arith)) refl) ]
from-Le false a true b h = and_from (eqb a b) (eqb a 0) (eq-eqb a b (omega arith)) (eq-eqb a 0 (omega arith))
from-Le true a false b h =
    elim (cases_lt 0 (a + b)) [
      | inl l ↦ or_left (ltb 0 (a + b)) (eqb a b && eqb a 0) (lt-ltb 0 (a + b) l)
      | inr g ↦ or_right (ltb 0 (a + b)) (eqb a b && eqb a 0) (and_from (eqb a b) (eqb a 0) (eq-eqb a b (omega arith)) (eq-eqb a 0 (omega arith)))
    ]
from-Le true a true b h =
    elim (cases_lt b a) [ inl l ↦ or_left (ltb b a) (eqb a b && true) (lt-ltb b a l) | inr g ↦ or_right (ltb b a) (eqb a b && true) (and_from (eqb a b) true (eq-eqb a b (omega arith)) refl) ]

no_factor : (a b : ℕ) → 0 < b → a * b ≤ 0 → a ≡ 0
no_factor a b p h = elim (eq-zero-or-pos a) [ inl e ↦ e | inr q ↦ absurd (omega (arith, mul-pos q p)) ]

no_product : (a b : ℕ) → a ≡ 0 → a * b ≡ 0
no_product a b e = ap (λ (n : ℕ). n * b) e ∙ zero-mul b

-- by the numbers that they stand for, in units of 1 / c
pub le_of_signed : (x y : Float) (s : Bool) (a : ℕ) (t : Bool) (b c : ℕ) → 0 < c → HasValue x s a c → HasValue y t b c → Le s a t b → le x y ≡ true
unfolding le
le_of_signed nan y s a t b c C v w h = absurd v
le_of_signed (inf z) y s a t b c C v w h = absurd v
le_of_signed (fin z m e) nan s a t b c C v w h = absurd w
le_of_signed (fin z m e) (inf o) s a t b c C v w h = absurd w
le_of_signed (fin z m e) (fin o n d) s a t b c C (p, v) (q, w) h =
    subst (λ (i : Bool). at_most i (m * up e * down d) o (n * up d * down e) ≡ true) (sym p)
    (subst (λ (i : Bool). at_most s (m * up e * down d) i (n * up d * down e) ≡ true) (sym q)
    (from-Le s (m * up e * down d) t (n * up d * down e) (scaled s a t b (m * up e) (down e) (n * up d) (down d) (down_pos e) (down_pos d) v w h)))
  where
    none : (x p a : ℕ) → x * c ≡ a * p → a ≡ 0 → x ≡ 0
    none x p a e z = no_factor x c C (omega (arith, no_product a p z))

    scaled : (s : Bool) (a : ℕ) (t : Bool) (b : ℕ) (x p y q : ℕ) → 0 < p → 0 < q → x * c ≡ a * p → y * c ≡ b * q → Le s a t b → Le s (x * q) t (y * p)
    scaled false a false b x p y q P Q v w h = transfer x y p q a b c c C C v w (mul-le-mul_right c h)
    scaled false a true b x p y q P Q v w h = omega (arith, no_product x q (none x p a v (omega arith)), no_product y p (none y q b w (omega arith)))
    scaled true a false b x p y q P Q v w h = tt
    scaled true a true b x p y q P Q v w h = transfer y x q p b a c c C C w v (mul-le-mul_right c h)

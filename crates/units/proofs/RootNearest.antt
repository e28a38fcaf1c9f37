-- The root that std rounds once is the f32 nearest to the root. Assumes nothing.
use Rattle.std.proofs.Common.{◌≡◌, ℕ, zero, suc, ◌+◌, ◌*◌, ◌/◌, ◌%◌, ◌^◌, ◌<◌, ◌≤◌, Bool, true, false, cond, not, ◌&&◌, T, eqb, ltb, leb, ℤ, pos, sym, refl, ap, ◌∙◌, subst, lt_of_le_of_lt, le_of_lt, mul-le-mul_right, mul_assoc, mul-le-mul, lt_of_mul-lt-mul_right, mul-lt-mul_of_pos_right, mul-pos, lt_of_not-le, zero-mul, mul_right_comm, not-le_of_lt, le_of_mul-le-mul_right, mul-div_cancel, arith, lit<, ltb→lt, pow_pos, le-ltb, eq-eqb, ne_eqb, eqb-true}
use native.Mathlib.Nat.{zero-div}
use lib.Ieee.{Float, nan, inf, fin, binary32, up, down, size, root_below, root_twice, round, fits, le, eq, of_bits}
use lib.Ieee.Exact.{HasValue}
use lib.Ieee.Fits.{up_pos, down_pos, and_r}
use lib.Ieee.Order.{le_of_values}
use lib.Ieee.Scale.{grid, overflow}
use Rattle.std.specs.Float.{float_is_finite, sqrt}
use lib.Ieee.Root.{Root, whole_part}
use Rattle.units.specs.House.{none, root, steps, IsRoot}
use Rattle.units.proofs.RoundNearest.{Nearer, steps_in, grid_le, finite_of_value, round_value, round_nearest, fits_whole}

-- ---- twice a root, with its sticky 1, tells on which side of the root a whole number is

by_rest : (s n v : ℕ) (b : Bool) → Root s n → (b ≡ true → s * s ≡ n) → (2 * v ≤ 2 * s + cond b 0 1 → v * v ≤ n) × (2 * s + cond b 0 1 ≤ 2 * v → n ≤ v * v)
by_rest s n v true h e = (
  λ l. let i : v ≤ s = omega arith in omega (arith, mul-le-mul i i, h.0),
  λ l. let i : s ≤ v = omega arith in omega (arith, mul-le-mul i i, e refl),
)
by_rest s n v false h e = (
  λ l. let i : v ≤ s = omega arith in omega (arith, mul-le-mul i i, h.0),
  λ l. let i : s + 1 ≤ v = omega arith in omega (arith, mul-le-mul i i, h.1),
)

root_side : (n v : ℕ) → (2 * v ≤ root_twice n → v * v ≤ n) × (root_twice n ≤ 2 * v → n ≤ v * v)
unfolding root_twice
root_side n v = let s = root_below (size n) n in by_rest s n v (eqb (s * s) n) (whole_part n) (eqb-true (s * s) n)

-- ---- `sqrt` of w steps takes the root of n = w * 2 ^ 151 * v * v, twice which is t, and rounds t / d. A step is then 2 * v, so that m * v is the middle between
-- two values, of which m is the sum.

side_low : (w m t v d n : ℕ) → 0 < v → d ≡ v * 2 ^ 151 → n ≡ w * 2 ^ 151 * (v * v) → (2 * (m * v) ≤ t → m * v * (m * v) ≤ n) → m * d ≤ 2 * (t * 2 ^ 149) → m * m ≤ 4 * w * 2 ^ 149
side_low w m t v d n V D N h l =
    let e : m * d ≡ m * (v * 2 ^ 151) = ap (λ (z : ℕ). m * z) D in
    let g : m * v * (m * v) ≤ n = h (omega arith) in
    le_of_mul-le-mul_right {k = v * v} (omega arith) (mul-pos V V)

side_high : (w m t v d n : ℕ) → 0 < v → d ≡ v * 2 ^ 151 → n ≡ w * 2 ^ 151 * (v * v) → (t ≤ 2 * (m * v) → n ≤ m * v * (m * v)) → 2 * (t * 2 ^ 149) ≤ m * d → 4 * w * 2 ^ 149 ≤ m * m
side_high w m t v d n V D N h l =
    let e : m * d ≡ m * (v * 2 ^ 151) = ap (λ (z : ℕ). m * z) D in
    let g : n ≤ m * v * (m * v) = h (omega arith) in
    le_of_mul-le-mul_right {k = v * v} (omega arith) (mul-pos V V)

abbrev radicand : ℕ → ℕ
radicand w = w * 2 ^ 4393

radicand_is : (w : ℕ) → radicand w ≡ w * 2 ^ 151 * (2 ^ 2121 * 2 ^ 2121)
radicand_is w = sym (mul_assoc w (2 ^ 151) (2 ^ 2121 * 2 ^ 2121))

sides : (w r y : ℕ) → Nearer r y (root_twice (radicand w) * 2 ^ 149) (2 ^ 2272)
    → (y < r → (r + y) * (r + y) ≤ 4 * w * 2 ^ 149) × (r < y → 4 * w * 2 ^ 149 ≤ (r + y) * (r + y))
sides w r y h =
    let t = root_twice (radicand w) in
    let side = root_side (radicand w) ((r + y) * 2 ^ 2121) in (
      λ l. side_low w (r + y) t (2 ^ 2121) (2 ^ 2272) (radicand w) (pow_pos 2121) refl (radicand_is w) side.0 (h.0 l),
      λ l. side_high w (r + y) t (2 ^ 2121) (2 ^ 2272) (radicand w) (pow_pos 2121) refl (radicand_is w) side.1 (h.1 l),
    )

-- ---- the root of a finite f32 is below 2 ^ 64, so it is no infinity

twice_lt : (n v : ℕ) → n < v * v → root_twice n < 2 * v
twice_lt n v h = lt_of_not-le λ g. not-le_of_lt h ((root_side n v).0 g)

abbrev rooted : ℕ → Float
rooted w = round binary32 false (root_twice (radicand w)) (2 ^ 2272)

rooted_under : (w : ℕ) → w < 2 ^ 277 → grid binary32 (root_twice (radicand w)) (2 ^ 2272) < overflow binary32
rooted_under w h =
    let t : root_twice (radicand w) < 2 ^ 2336 = twice_lt (radicand w) (2 ^ 2335) (mul-lt-mul_of_pos_right h (pow_pos 4393)) in
    lt_of_le_of_lt (grid_le binary32 (root_twice (radicand w)) (2 ^ 2272) (2 ^ 213) (pow_pos 2272) (1, 213, lit< tt, refl) (mul-le-mul_right (2 ^ 149) (le_of_lt t))) (lit< tt)

rooted_value : (w : ℕ) → w < 2 ^ 277 → HasValue (rooted w) false (grid binary32 (root_twice (radicand w)) (2 ^ 2272)) (2 ^ 149)
rooted_value w h = round_value binary32 false (root_twice (radicand w)) (2 ^ 2272) (rooted_under w h)

none_is : none ≡ fin false 0 (pos 0)
unfolding of_bits
none_is = refl

none_value : HasValue none false 0 1
none_value = subst (λ (z : Float). HasValue z false 0 1) (sym none_is) (refl, refl)

from_none : (x : Float) (a c : ℕ) → 0 < c → HasValue x false a c → T (le none x)
from_none x a c C v = le_of_values none x 0 1 a c (lit< tt) C none_value v (omega arith)

pub steps_is : (x : Float) → steps_in binary32 x ≡ steps x
steps_is nan = refl
steps_is (inf s) = refl
steps_is (fin s m e) = refl

rooted_nearest : (w : ℕ) (x : Float) → w < 2 ^ 277 → w ≡ steps x → IsRoot x (rooted w)
rooted_nearest w x h e =
    let v = rooted_value w h in
    let f = finite_of_value (rooted w) false (grid binary32 (root_twice (radicand w)) (2 ^ 2272)) (2 ^ 149) v in (
      f,
      from_none (rooted w) (grid binary32 (root_twice (radicand w)) (2 ^ 2272)) (2 ^ 149) (pow_pos 149) v,
      λ y fit fine from.
          let n = round_nearest binary32 false (root_twice (radicand w)) (2 ^ 2272) y (pow_pos 2272) f fit in
          rw (← e, ← steps_is (rooted w), ← steps_is y) (sides w (steps_in binary32 (rooted w)) (steps_in binary32 y) n),
    )

-- ---- at an f32 above 0

scaled : (a d w : ℕ) → 0 < d → a * 2 ^ 149 ≡ w * d → a * 2 ^ 4542 / d ≡ radicand w
scaled a d w D e = ap (λ (z : ℕ). z / d) (sym (mul_assoc a (2 ^ 149) (2 ^ 4393)) ∙ ap (λ (z : ℕ). z * 2 ^ 4393) e ∙ mul_right_comm w d (2 ^ 4393)) ∙ mul-div_cancel (radicand w) D

steps_lt : (a d w : ℕ) → a * 2 ^ 149 ≡ w * d → a < 2 ^ 128 * d → w < 2 ^ 277
steps_lt a d w e h = lt_of_mul-lt-mul_right d (omega arith)

below_top : (m : ℕ) (e : ℤ) → T (fits binary32 (fin false (suc m) e)) → suc m * up e < 2 ^ 128 * down e
unfolding fits
below_top m e t = ltb→lt (suc m * up e) (2 ^ 128 * down e) (and_r (eqb (suc m % 2) 1 && ltb (suc m) (2 ^ 24) && leb (down e) (2 ^ 149)) (ltb (suc m * up e) (2 ^ 128 * down e)) t)

above_zero : (m : ℕ) (e : ℤ) → T (fits binary32 (fin false (suc m) e)) → IsRoot (fin false (suc m) e) (sqrt binary32 (fin false (suc m) e))
unfolding sqrt
above_zero m e t =
    let x = fin false (suc m) e in
    let w = steps x in
    let exact : suc m * up e * 2 ^ 149 ≡ w * down e = (fits_whole binary32 false (suc m) e t).exact in
    subst (λ (n : ℕ). IsRoot x (round binary32 false (root_twice n) (2 ^ 2272)))
    (sym (scaled (suc m * up e) (down e) w (down_pos e) exact))
    (rooted_nearest w x (steps_lt (suc m * up e) (down e) w exact (below_top m e t)) refl)

-- ---- at both zeros

none_root : (x : Float) → steps x ≡ 0 → IsRoot x none
none_root x z = (
  subst (λ (r : Float). T (float_is_finite r)) (sym none_is) (unfold float_is_finite in tt),
  from_none none 0 1 (lit< tt) none_value,
  λ y fit fine from. rw (z, ap steps none_is) (λ l. absurd (omega arith), λ l. omega arith),
)

-- ---- the house unit's root

some : (m : ℕ) (e : ℤ) → 0 < suc m * up e * 1
some m e = omega (arith, mul-pos {m = suc m} (omega arith) (up_pos e))

steps_none : (x : Float) → T (eq x none) → steps x ≡ 0
unfolding eq of_bits
steps_none nan h = refl
steps_none (inf s) h = refl
steps_none (fin s zero e) h = rw (zero-mul, zero-mul, zero-div)
steps_none (fin s (suc m) e) h = absurd (rw (ne_eqb (suc m * up e * 1) (0 * 1 * down e) (omega (arith, some m e))) at h)

none_le : (x : Float) → T (eq x none) → T (le none x)
unfolding le eq of_bits
none_le nan h = h
none_le (inf s) h = absurd h
none_le (fin false zero e) h = rw (le-ltb (0 * 1 * down e) (0 * up e * 1) (omega arith), eq-eqb (0 * 1 * down e) (0 * up e * 1) (omega arith)) tt
none_le (fin true zero e) h = rw (eq-eqb (0 * 1 * down e) (0 * up e * 1) (omega arith), eq-eqb (0 * 1 * down e) 0 (omega arith)) tt
none_le (fin s (suc m) e) h = absurd (rw (ne_eqb (suc m * up e * 1) (0 * 1 * down e) (omega (arith, some m e))) at h)

sqrt_root : (x : Float) → T (fits binary32 x) → T (float_is_finite x) → T (le none x) → T (not (eq x none)) → IsRoot x (sqrt binary32 x)
unfolding le eq float_is_finite of_bits
sqrt_root nan t f l n = absurd f
sqrt_root (inf s) t f l n = absurd f
sqrt_root (fin false zero e) t f l n = absurd (rw (eq-eqb (0 * up e * 1) (0 * 1 * down e) (omega arith)) at n)
sqrt_root (fin true zero e) t f l n = absurd (rw (eq-eqb (0 * up e * 1) (0 * 1 * down e) (omega arith), eq-eqb (0 * up e * 1) 0 (omega arith)) at n)
sqrt_root (fin true (suc m) e) t f l n = absurd (rw (ne_eqb (0 * 1 * down e) (suc m * up e * 1) (omega (arith, some m e))) at l)
sqrt_root (fin false (suc m) e) t f l n = above_zero m e t

abbrev chosen : Float → Bool → Bool → Float
chosen x a b = cond a (cond b none (sqrt binary32 x)) nan

chosen_root : (x : Float) (a b : Bool) → T a → (T b → IsRoot x none) → (T (not b) → IsRoot x (sqrt binary32 x)) → IsRoot x (chosen x a b)
chosen_root x true true h z n = z tt
chosen_root x true false h z n = n tt
chosen_root x false b h z n = absurd h

chosen_none : (x : Float) (a b : Bool) → T a → T b → chosen x a b ≡ none
chosen_none x true true h k = refl
chosen_none x true false h k = absurd k
chosen_none x false b h k = absurd h

-- what the house unit's root says of an f32
pub root_is : (x : Float) → T (fits binary32 x) → T (float_is_finite x) → T (le none x) → IsRoot x (root x)
root_is x t f l = chosen_root x (le none x) (eq x none) l (λ z. none_root x (steps_none x z)) (sqrt_root x t f l)

pub root_zero : (x : Float) → T (eq x none) → root x ≡ none
root_zero x h = chosen_none x (le none x) (eq x none) (none_le x h) h

pub root_infinity : root (inf false) ≡ inf false
unfolding le eq of_bits sqrt
root_infinity = refl

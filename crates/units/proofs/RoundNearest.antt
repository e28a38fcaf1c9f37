-- `round` gives the value of its format that is nearest to the fraction: the fraction lies on that value's side of the middle between it and any other of the format.
-- All is of sizes, in units of the format's smallest value, and so in whole numbers. Assumes nothing.
use Rattle.std.proofs.Common.{◌≡◌, ℕ, zero, suc, ◌+◌, ◌-◌, ◌*◌, ◌/◌, ◌%◌, ◌^◌, ◌<◌, ◌≤◌, Bool, true, false, cond, not, ◌&&◌, T, eqb, ltb, leb, ℤ, pos, negsuc, sym, refl, ap, ◌∙◌, subst, inl, inr, zero-le, le_trans, le_of_eq, lt_of_lt_of_le, le_of_suc-le-suc, lt_of_le_of_lt, le_of_lt, mul-le-mul_right, mod-lt, mul_assoc, mul_comm, eq-zero-or-pos, lt_of_mul-lt-mul_right, eq-or-lt_of_le, mul-pos, lt_of_not-le, div-add-mod', le-div_iff_mul-le, mul-one, not-le_of_lt, mul-div_cancel, arith, eqb→eq, ltb→lt, leb→le, pow_pos, pow_mono, pow-add, shl_lt}
use Prim.Native.Nat.{compare, Ordering}
use lib.Dec.{is_le, compare_is_eq, nleb→lt}
use lib.Pow.{pow-lt}
use lib.Ieee.{Float, nan, inf, fin, Format, prec, emax, low, up, down, size, nearest, odd, units, round, fits}
use lib.Ieee.Digits.{size_reaches, back}
use lib.Ieee.Exact.{HasValue, units_val}
use lib.Ieee.Fits.{two, two-le_pos, down_pos, round_is, and_l, and_r}
use lib.Ieee.Nearest.{closest}
use lib.Ieee.Order.{drop, kept}
use lib.Ieee.Scale.{grid, overflow}
use Rattle.std.specs.Float.{float_is_finite}

-- ---- a fraction n / u and the nearest whole number q: they are at most a half apart

abbrev Within : ℕ → ℕ → ℕ → Type 0
Within q n u = (2 * (q * u) ≤ 2 * n + u) × (2 * n ≤ 2 * (q * u) + u)

by_order : (w t u : ℕ) (o : Ordering) → t < u → (T (is_le o) → t * 2 ≤ u) → (T (not (is_le o)) → u < t * 2) → (T (compare_is_eq o) → t * 2 ≡ u) → Within (nearest w o) (w * u + t) u
by_order w t u Ordering.lt l h k e = omega (arith, h tt)
by_order w t u Ordering.eq l h k e =
    elim (eq-zero-or-pos (w % 2)) [
      | inl z ↦ subst (λ (r : ℕ). Within (w + r) (w * u + t) u) (sym z) (omega (arith, e tt))
      | inr p ↦ let one : w % 2 ≡ 1 = omega arith in subst (λ (r : ℕ). Within (w + r) (w * u + t) u) (sym one) (omega (arith, e tt))
    ]
by_order w t u Ordering.gt l h k e = omega (arith, k tt)

closest_within : (n u : ℕ) → 0 < u → Within (closest n u) n u
closest_within n u U =
    subst (λ (z : ℕ). Within (closest n u) z u) (div-add-mod' n u)
    (by_order (n / u) (n % u) u (compare (n % u * 2) u) (mod-lt n U) (leb→le (n % u * 2) u) (nleb→lt (n % u * 2) u) (eqb→eq (n % u * 2) u))

-- so n / u is on q's side of the middle between q and any other whole number y
side_below : (q y n u : ℕ) → Within q n u → y < q → (q + y) * u ≤ 2 * n
side_below q y n u w h = omega (arith, w.0, mul-le-mul_right u h)

side_above : (q y n u : ℕ) → Within q n u → q < y → 2 * n ≤ (q + y) * u
side_above q y n u w h = omega (arith, w.1, mul-le-mul_right u h)

-- ---- n / c is on r's side of the middle between r and y

abbrev pub Nearer : ℕ → ℕ → ℕ → ℕ → Type 0
Nearer r y n c = (y < r → (r + y) * c ≤ 2 * n) × (r < y → 2 * n ≤ (r + y) * c)

-- a multiple of the unit that `round` chose
on_grid : (q y k n c : ℕ) → 0 < c → Within q n (c * 2 ^ k) → Nearer (q * 2 ^ k) (y * 2 ^ k) n c
on_grid q y k n c C w =
    let e : (q * 2 ^ k + y * 2 ^ k) * c ≡ (q + y) * (c * 2 ^ k) = omega arith in (
      λ h. le_trans (le_of_eq e) (side_below q y n (c * 2 ^ k) w (lt_of_mul-lt-mul_right (2 ^ k) h)),
      λ h. le_trans (side_above q y n (c * 2 ^ k) w (lt_of_mul-lt-mul_right (2 ^ k) h)) (le_of_eq (sym e)),
    )

-- a y below b of those units, where the fraction is b of them at least
at_least : (b q n u : ℕ) → 0 < u → b * u ≤ n → Within q n u → b ≤ q
at_least b q n u U h w = le_of_suc-le-suc (lt_of_mul-lt-mul_right u {m = b} {n = suc q} (omega (arith, w.1)))

below_grid : (b q y k n c : ℕ) → 0 < c → b * (c * 2 ^ k) ≤ n → y < b * 2 ^ k → Within q n (c * 2 ^ k) → Nearer (q * 2 ^ k) y n c
below_grid b q y k n c C h l w =
    let u = c * 2 ^ k in
    let B : b ≤ q = at_least b q n u (mul-pos C (pow_pos k)) h w in
    let low : y * c ≤ b * u = omega (arith, mul-le-mul_right c (le_of_lt l)) in
    let mid : (q + b) * u ≤ 2 * n = elim (eq-or-lt_of_le B) [ inl e ↦ subst (λ (z : ℕ). (z + b) * u ≤ 2 * n) e (omega arith) | inr g ↦ side_below q b n u w g ] in (
      λ _. omega arith,
      λ g. absurd (not-le_of_lt g (le_of_lt (lt_of_lt_of_le l (mul-le-mul_right (2 ^ k) B)))),
    )

-- ---- a value of the format: as many digits as it keeps, and zeros after them

abbrev pub Value : Format → ℕ → Type 0
Value f y = (m : ℕ) × (j : ℕ) × (m < 2 ^ prec f) × (y ≡ m * 2 ^ j)

split_at : (m j k : ℕ) → k ≤ j → m * 2 ^ (j - k) * 2 ^ k ≡ m * 2 ^ j
split_at m j k h = mul_assoc m (2 ^ (j - k)) (2 ^ k) ∙ ap (λ (z : ℕ). m * z) (sym (pow-add 2 (j - k) k) ∙ ap (λ (z : ℕ). 2 ^ z) (back j k h))

-- a value with fewer zeros than `round` drops digits is below the least number that has so many to drop
few_zeros : (p m j k : ℕ) → 0 < p → m < 2 ^ p → j < k → m * 2 ^ j < 2 ^ (p - 1) * 2 ^ k
few_zeros p m j k P h l =
    let le : p + j ≤ p - 1 + k = omega arith in
    lt_of_lt_of_le (shl_lt p j h) (le_trans (pow_mono le) (le_of_eq (pow-add 2 (p - 1) k)))

-- and the fraction is at least that number
reaches : (p n c : ℕ) → 0 < p → 0 < c → 0 < drop p n c → 2 ^ (p - 1) * (c * 2 ^ drop p n c) ≤ n
reaches p n c P C K =
    let k = drop p n c in
    let l : p - 1 + k < size (n / c) = omega arith in
    let h : 2 ^ (p - 1 + k) * c ≤ n = (le-div_iff_mul-le C).0 (size_reaches (n / c) (p - 1 + k) l) in
    le_trans (le_of_eq (ap (λ (z : ℕ). 2 ^ (p - 1) * z) (mul_comm c (2 ^ k)) ∙ sym (mul_assoc (2 ^ (p - 1)) (2 ^ k) c) ∙ ap (λ (z : ℕ). z * c) (sym (pow-add 2 (p - 1) k)))) h

kept_nearest : (p n c m j : ℕ) → 0 < p → 0 < c → m < 2 ^ p → Nearer (kept p n c * 2 ^ drop p n c) (m * 2 ^ j) n c
kept_nearest p n c m j P C h = go (leb (drop p n c) j) (leb→le (drop p n c) j) (nleb→lt (drop p n c) j)
  where
    within : Within (kept p n c) n (c * 2 ^ drop p n c)
    within = closest_within n (c * 2 ^ drop p n c) (mul-pos C (pow_pos (drop p n c)))

    go : (b : Bool) → (T b → drop p n c ≤ j) → (T (not b) → j < drop p n c) → Nearer (kept p n c * 2 ^ drop p n c) (m * 2 ^ j) n c
    go true l g =
        subst (λ (y : ℕ). Nearer (kept p n c * 2 ^ drop p n c) y n c) (split_at m j (drop p n c) (l tt))
        (on_grid (kept p n c) (m * 2 ^ (j - drop p n c)) (drop p n c) n c C within)
    go false l g =
        below_grid (2 ^ (p - 1)) (kept p n c) (m * 2 ^ j) (drop p n c) n c C (reaches p n c P C (lt_of_le_of_lt zero-le (g tt))) (few_zeros p m j (drop p n c) P h (g tt)) within

pub grid_nearest : (f : Format) (a c y : ℕ) → 0 < c → Value f y → Nearer (grid f a c) y (a * 2 ^ low f) c
grid_nearest f a c y C v =
    subst (λ (z : ℕ). Nearer (grid f a c) z (a * 2 ^ low f) c) (sym v.3)
    (kept_nearest (prec f) (a * 2 ^ low f) c v.0 v.1 (two-le_pos (prec f) (two f)) C v.2)

-- what lies below a value of the format, or is that value, rounds to no more
pub grid_le : (f : Format) (a c y : ℕ) → 0 < c → Value f y → a * 2 ^ low f ≤ y * c → grid f a c ≤ y
grid_le f a c y C v h =
    le_of_suc-le-suc (lt_of_not-le λ (l : y < grid f a c).
    let g = (grid_nearest f a c y C v).0 l in
    let m = mul-le-mul_right c l in
    omega arith)

-- ---- floats

-- a finite value in units of the format's smallest value
abbrev pub steps_in : Format → Float → ℕ
steps_in f nan = 0
steps_in f (inf s) = 0
steps_in f (fin s m e) = m * up e * 2 ^ low f / down e

steps_of_value : (f : Format) (x : Float) (s : Bool) (g : ℕ) → HasValue x s g (2 ^ low f) → steps_in f x ≡ g
steps_of_value f nan s g v = absurd v
steps_of_value f (inf t) s g v = absurd v
steps_of_value f (fin t m e) s g v = ap (λ (z : ℕ). z / down e) v.1 ∙ mul-div_cancel g (down_pos e)

pub finite_of_value : (x : Float) (s : Bool) (a c : ℕ) → HasValue x s a c → T (float_is_finite x)
unfolding float_is_finite
finite_of_value nan s a c v = absurd v
finite_of_value (inf t) s a c v = absurd v
finite_of_value (fin t m e) s a c v = tt

units_under : (f : Format) (s : Bool) (q k : ℕ) → T (float_is_finite (units f s q k)) → q * 2 ^ k < overflow f
unfolding float_is_finite units
units_under f s q k = go (ltb (q * 2 ^ k) (overflow f)) (ltb→lt (q * 2 ^ k) (overflow f))
  where
    go : (b : Bool) → (T b → q * 2 ^ k < overflow f) → T (float_is_finite (cond b (odd (suc (prec f)) s q k (low f)) (inf s))) → q * 2 ^ k < overflow f
    go true h t = h tt
    go false h t = absurd t

-- below `overflow` the result is the grid's number of units, and from there on an infinity
pub round_value : (f : Format) (s : Bool) (a c : ℕ) → grid f a c < overflow f → HasValue (round f s a c) s (grid f a c) (2 ^ low f)
round_value f s a c h =
    subst (λ (z : Float). HasValue z s (grid f a c) (2 ^ low f)) (sym (round_is f s a c)) (units_val f s (kept (prec f) (a * 2 ^ low f) c) (drop (prec f) (a * 2 ^ low f) c) h)

pub round_steps : (f : Format) (s : Bool) (a c : ℕ) → T (float_is_finite (round f s a c)) → steps_in f (round f s a c) ≡ grid f a c
round_steps f s a c h =
    let under = units_under f s (kept (prec f) (a * 2 ^ low f) c) (drop (prec f) (a * 2 ^ low f) c) (subst (λ (z : Float). T (float_is_finite z)) (round_is f s a c) h) in
    steps_of_value f (round f s a c) s (grid f a c) (round_value f s a c under)

exponent_le : (a b : ℕ) → 2 ^ a ≤ 2 ^ b → a ≤ b
exponent_le a b h = le_of_suc-le-suc (lt_of_not-le λ (l : b < a). not-le_of_lt (pow-lt l) h)

-- a whole number of units, with the zeros that its exponent gives
zeros : (l m : ℕ) (e : ℤ) → down e ≤ 2 ^ l → (j : ℕ) × (m * up e * 2 ^ l ≡ m * 2 ^ j * down e)
zeros l m (pos k) h = (k + l, mul_assoc m (2 ^ k) (2 ^ l) ∙ ap (λ (z : ℕ). m * z) (sym (pow-add 2 k l)) ∙ sym (mul-one (m * 2 ^ (k + l))))
zeros l m (negsuc k) h = (l - suc k, ap (λ (z : ℕ). z * 2 ^ l) (mul-one m) ∙ sym (split_at m l (suc k) (exponent_le (suc k) l h)))

-- a value that fits is a whole number of units, with no more digits than the format keeps
pub record Whole (f : Format) (s : Bool) (m : ℕ) (e : ℤ) : Type 0 where
  pub exact : m * up e * 2 ^ low f ≡ steps_in f (fin s m e) * down e
  pub value : Value f (steps_in f (fin s m e))

whole_of : (f : Format) (s : Bool) (m j : ℕ) (e : ℤ) → m < 2 ^ prec f → m * up e * 2 ^ low f ≡ m * 2 ^ j * down e → Whole f s m e
whole_of f s m j e h q =
    let is : steps_in f (fin s m e) ≡ m * 2 ^ j = ap (λ (z : ℕ). z / down e) q ∙ mul-div_cancel (m * 2 ^ j) (down_pos e) in
    record { exact = q ∙ ap (λ (z : ℕ). z * down e) (sym is); value = (m, j, h, is) }

pub fits_whole : (f : Format) (s : Bool) (m : ℕ) (e : ℤ) → T (fits f (fin s m e)) → Whole f s m e
unfolding fits
fits_whole f s zero e t = whole_of f s zero 0 e (pow_pos (prec f)) (omega arith)
fits_whole f s (suc m) e t =
    let a : Bool = eqb (suc m % 2) 1 in
    let b : Bool = ltb (suc m) (2 ^ prec f) in
    let c : Bool = leb (down e) (2 ^ low f) in
    let d : Bool = ltb (suc m * up e) (2 ^ suc (emax f) * down e) in
    let z = zeros (low f) (suc m) e (leb→le (down e) (2 ^ low f) (and_r (a && b) c (and_l (a && b && c) d t))) in
    whole_of f s (suc m) z.0 e (ltb→lt (suc m) (2 ^ prec f) (and_r a b (and_l (a && b) c (and_l (a && b && c) d t)))) z.1

pub fits_value : (f : Format) (x : Float) → T (fits f x) → Value f (steps_in f x)
fits_value f nan t = (0, 0, pow_pos (prec f), refl)
fits_value f (inf s) t = (0, 0, pow_pos (prec f), refl)
fits_value f (fin s m e) t = (fits_whole f s m e t).value

pub round_nearest : (f : Format) (s : Bool) (a c : ℕ) (y : Float) → 0 < c → T (float_is_finite (round f s a c)) → T (fits f y) → Nearer (steps_in f (round f s a c)) (steps_in f y) (a * 2 ^ low f) c
round_nearest f s a c y C h t =
    subst (λ (r : ℕ). Nearer r (steps_in f y) (a * 2 ^ low f) c) (sym (round_steps f s a c h)) (grid_nearest f a c (steps_in f y) C (fits_value f y t))

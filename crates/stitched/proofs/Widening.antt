-- A finite value less a number that is not negative is no more than before, and with that number added no less, rounding counted. Assumes nothing.
use Rattle.std.proofs.Common.{◌≡◌, ℕ, zero, suc, ◌+◌, ◌-◌, ◌*◌, ◌%◌, ◌^◌, ◌<◌, ◌≤◌, Bool, true, false, ◌&&◌, T, eqb, ltb, leb, ◌⊎◌, ℤ, negsuc, sym, refl, ap, ◌∙◌, subst, inl, inr, le_trans, le_of_eq, lt_of_lt_of_le, le_of_suc-le-suc, mul-le-mul_right, mul_assoc, mul_comm, lt_of_mul-lt-mul_right, mul-lt-mul_of_pos_right, mul-pos, lt_of_not-le, mul_left_comm, arith, ltb→lt, pow_pos, pow-add}
use lib.Ieee.{Float, nan, inf, fin, Format, binary32, prec, emax, low, up, down, odd, units, round, sum, add, sub, le, fits, of_bits}
use lib.Ieee.Exact.{HasValue}
use lib.Ieee.Fits.{down_pos, round_is, and_r}
use lib.Ieee.Order.{drop, kept}
use lib.Ieee.Scale.{grid, overflow}
use Rattle.std.specs.Float.{float_is_finite}
use Rattle.std.proofs.lemmas.Bool.{cases_lt, le-ltb, cond-false, cond_both, false≢true}
use Rattle.numeric.proofs.Comparing.{Le, le_of_signed}
use Rattle.units.proofs.RoundNearest.{Value, steps_in, fits_whole, grid_nearest, grid_le, round_value}
use Rattle.stitched.specs.Stitched.{hair}

-- what lies above a value of the format, or is that value, rounds to no less
grid_ge : (f : Format) (a c y : ℕ) → 0 < c → Value f y → y * c ≤ a * 2 ^ low f → y ≤ grid f a c
grid_ge f a c y C v h =
    le_of_suc-le-suc (lt_of_not-le λ (l : grid f a c < y).
    let g = (grid_nearest f a c y C v).1 l in
    let m = mul-le-mul_right c l in
    omega arith)

-- rounding gives the grid's number of units, or an infinity
units_over : (f : Format) (s : Bool) (q k : ℕ) → overflow f ≤ q * 2 ^ k → units f s q k ≡ inf s
unfolding units
units_over f s q k h = cond-false (ltb (q * 2 ^ k) (overflow f)) (odd (suc (prec f)) s q k (low f)) (inf s) (le-ltb (q * 2 ^ k) (overflow f) h)

rounded : (f : Format) (s : Bool) (a c : ℕ) → HasValue (round f s a c) s (grid f a c) (2 ^ low f) ⊎ ((round f s a c ≡ inf s) × (overflow f ≤ grid f a c))
rounded f s a c =
    elim (cases_lt (grid f a c) (overflow f)) [
      | inl h ↦ inl (round_value f s a c h)
      | inr h ↦ inr (round_is f s a c ∙ units_over f s (kept (prec f) (a * 2 ^ low f) c) (drop (prec f) (a * 2 ^ low f) c) h, h)
    ]

-- ---- a value that fits, and what is rounded beside it

small : (f : Format) (s : Bool) (m : ℕ) (e : ℤ) → T (fits f (fin s m e)) → m * up e < 2 ^ suc (emax f) * down e
unfolding fits
small f s zero e t = omega (arith, mul-pos (pow_pos (suc (emax f))) (down_pos e))
small f s (suc m) e t =
    ltb→lt (suc m * up e) (2 ^ suc (emax f) * down e) (and_r (eqb (suc m % 2) 1 && ltb (suc m) (2 ^ prec f) && leb (down e) (2 ^ low f)) (ltb (suc m * up e) (2 ^ suc (emax f) * down e)) t)

module _ (f : Format) (s : Bool) (m : ℕ) (e : ℤ) (t : T (fits f (fin s m e))) where
  abbrev steps : ℕ
  steps = steps_in f (fin s m e)

  own : HasValue (fin s m e) s steps (2 ^ low f)
  own = (refl, (fits_whole f s m e t).exact)

  under : steps < overflow f
  under =
      lt_of_mul-lt-mul_right (down e)
      (lt_of_lt_of_le (subst (λ (n : ℕ). n < 2 ^ suc (emax f) * down e * 2 ^ low f) (fits_whole f s m e t).exact (mul-lt-mul_of_pos_right (small f s m e t) (pow_pos (low f))))
      (le_of_eq (ap (λ (n : ℕ). n * 2 ^ low f) (mul_comm (2 ^ suc (emax f)) (down e)) ∙ mul_assoc (down e) (2 ^ suc (emax f)) (2 ^ low f) ∙ ap (λ (n : ℕ). down e * n) (mul_comm (2 ^ suc (emax f)) (2 ^ low f) ∙ sym (pow-add 2 (low f) (suc (emax f)))) ∙ mul_comm (down e) (overflow f))))

  -- over the denominator that it shares with another
  shared : (q : ℕ) → m * up e * q * 2 ^ low f ≡ steps * (down e * q)
  shared q = simp (mul_assoc, mul_comm) (simp (mul_assoc, mul_comm, mul_left_comm) at (ap (λ (n : ℕ). n * q) (fits_whole f s m e t).exact))

  grows : (h q : ℕ) → 0 < q → steps ≤ grid f (m * up e * q + h) (down e * q)
  grows h q Q =
      let k = shared q in
      grid_ge f (m * up e * q + h) (down e * q) steps (mul-pos (down_pos e) Q) (fits_whole f s m e t).value (le_trans (le_of_eq (sym k)) (mul-le-mul_right (2 ^ low f) (omega arith)))

  falls : (h q : ℕ) → 0 < q → grid f (m * up e * q - h) (down e * q) ≤ steps
  falls h q Q =
      let k = shared q in
      grid_le f (m * up e * q - h) (down e * q) steps (mul-pos (down_pos e) Q) (fits_whole f s m e t).value (le_trans (mul-le-mul_right (2 ^ low f) (omega arith)) (le_of_eq k))

  round_le : (u : Bool) (p c : ℕ) → Le u (grid f p c) s steps → (overflow f ≤ grid f p c → u ≡ true) → le (round f u p c) (fin s m e) ≡ true
  unfolding le
  round_le u p c h o =
      elim (rounded f u p c) [
        | inl v ↦ le_of_signed (round f u p c) (fin s m e) u (grid f p c) s steps (2 ^ low f) (pow_pos (low f)) v own h
        | inr w ↦ subst (λ (x : Float). le x (fin s m e) ≡ true) (sym (w.0 ∙ ap inf (o w.1))) refl
      ]

  round_ge : (u : Bool) (p c : ℕ) → Le s steps u (grid f p c) → (overflow f ≤ grid f p c → u ≡ false) → le (fin s m e) (round f u p c) ≡ true
  unfolding le
  round_ge u p c h o =
      elim (rounded f u p c) [
        | inl v ↦ le_of_signed (fin s m e) (round f u p c) s steps u (grid f p c) (2 ^ low f) (pow_pos (low f)) own v h
        | inr w ↦ subst (λ (x : Float). le (fin s m e) x ≡ true) (sym (w.0 ∙ ap inf (o w.1))) refl
      ]

  -- no infinity comes from a value that shrinks
  never : (h q : ℕ) (b c : Bool) → 0 < q → overflow f ≤ grid f (m * up e * q - h) (down e * q) → b ≡ c
  never h q b c Q o = let a = falls h q Q in let z = under in absurd (omega arith)

pub less : (f : Format) (s : Bool) (m : ℕ) (e : ℤ) (n : ℕ) (d : ℤ) → T (fits f (fin s m e)) → le (sub f (fin s m e) (fin false n d)) (fin s m e) ≡ true
unfolding sub add sum
less f false m e n d t =
    let a = m * up e * down d in
    let h = n * up d * down e in
    let c = down e * down d in
    cond_both (ltb a h) (round f true (h - a) c) (round f false (a - h) c) (λ (x : Float). le x (fin false m e) ≡ true)
    (λ _. round_le f false m e t true (h - a) c tt (λ _. refl))
    (λ _. round_le f false m e t false (a - h) c (falls f false m e t h (down d) (down_pos d)) (λ o. never f false m e t h (down d) false true (down_pos d) o))
less f true m e n d t =
    let h = n * up d * down e in
    round_le f true m e t true (m * up e * down d + h) (down e * down d) (grows f true m e t h (down d) (down_pos d)) (λ _. refl)

either_sign : (u : Bool) (g y : ℕ) → g ≤ y → Le true y u g
either_sign true g y h = h
either_sign false g y h = tt

pub more : (f : Format) (s : Bool) (m : ℕ) (e : ℤ) (n : ℕ) (d : ℤ) → T (fits f (fin s m e)) → le (fin s m e) (add f (fin s m e) (fin false n d)) ≡ true
unfolding add sum
more f false m e n d t =
    let h = n * up d * down e in
    round_ge f false m e t false (m * up e * down d + h) (down e * down d) (grows f false m e t h (down d) (down_pos d)) (λ _. refl)
more f true m e n d t =
    let a = m * up e * down d in
    let h = n * up d * down e in
    let c = down e * down d in
    let low = falls f true m e t h (down d) (down_pos d) in
    cond_both (ltb a h) (round f false (h - a) c) (round f (ltb h a) (a - h) c) (λ (x : Float). le (fin true m e) x ≡ true)
    (λ _. round_ge f true m e t false (h - a) c tt (λ _. refl))
    (λ _. round_ge f true m e t (ltb h a) (a - h) c (either_sign (ltb h a) (grid f (a - h) c) (steps_in f (fin true m e)) low) (λ o. never f true m e t h (down d) (ltb h a) false (down_pos d) o))

-- ---- the ends of the Domain

hair_is : hair ≡ fin false 13743895 (negsuc 36)
unfolding of_bits
hair_is = refl

pub below_itself : (x : Float) → float_is_finite x ≡ true → T (fits binary32 x) → le (sub binary32 x hair) x ≡ true
unfolding float_is_finite
below_itself nan h t = absurd (false≢true h)
below_itself (inf s) h t = absurd (false≢true h)
below_itself (fin s m e) h t = subst (λ (y : Float). le (sub binary32 (fin s m e) y) (fin s m e) ≡ true) (sym hair_is) (less binary32 s m e 13743895 (negsuc 36) t)

pub above_itself : (x : Float) → float_is_finite x ≡ true → T (fits binary32 x) → le x (add binary32 x hair) ≡ true
unfolding float_is_finite
above_itself nan h t = absurd (false≢true h)
above_itself (inf s) h t = absurd (false≢true h)
above_itself (fin s m e) h t = subst (λ (y : Float). le (fin s m e) (add binary32 (fin s m e) y) ≡ true) (sym hair_is) (more binary32 s m e 13743895 (negsuc 36) t)

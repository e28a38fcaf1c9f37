-- What the house unit answers. Assumes nothing.
use Rattle.std.specs.Prelude.{ℕ, zero, suc, ◌+◌, ◌*◌, ◌/◌, ◌^◌, ◌<◌, ◌≤◌, cond, ◌&&◌, T, pos, from_bits, nat_le, Float}
use Rattle.std.specs.Float.Ieee.{up, down, low, fits, mul, le, eq, of_int, to_unsigned}
use Rattle.std.specs.Float.{sqrt, float_is_finite, nan, inf, fin, binary32}
use Rattle.units.specs.declared.question.Question.{Question}
use Rattle.units.specs.declared.question.Question.TheVariants as question

-- ---- the root

abbrev pub none : Float
none = from_bits binary32 0

abbrev pub one : Float
one = from_bits binary32 0x3f80_0000

-- the root of a number from 0 up, 0 for both zeros and infinity for infinity; what is below 0, and a NaN, has none
abbrev pub root : Float → Float
root x = cond (le none x) (cond (eq x none) none (sqrt binary32 x)) nan

-- a float from 0 up as a whole number of the smallest step of f32, 2 ^ -149
abbrev pub steps : Float → ℕ
steps nan = 0
steps (inf s) = 0
steps (fin s m e) = m * up e * 2 ^ low binary32 / down e

-- r is the f32 nearest to the root of x: the root lies on r's side of the middle between r and any other f32 y. Squared, and in whole
-- numbers: (r + y) * (r + y) is at most 4 * x for each y below r, and at least that for each y above r.
abbrev pub NearestRoot : Float → Float → Type 0
NearestRoot x r =
    (y : Float) → T (fits binary32 y) → T (float_is_finite y) → T (le none y)
    → (steps y < steps r → (steps r + steps y) * (steps r + steps y) ≤ 4 * steps x * 2 ^ low binary32)
    × (steps r < steps y → 4 * steps x * 2 ^ low binary32 ≤ (steps r + steps y) * (steps r + steps y))

-- r is that f32: finite, from 0 up, and nearest
abbrev pub IsRoot : Float → Float → Type 0
IsRoot x r = T (float_is_finite r) × T (le none r) × NearestRoot x r

-- ---- the power

-- the largest exponent that the house unit multiplies out
abbrev pub most_factors : ℕ
most_factors = 64

-- 1, multiplied n times by the base, each product rounded
abbrev pub product : Float → ℕ → Float
product base zero = one
product base (suc n) = mul binary32 (product base n) base

-- the power for whole exponents from 0 to 64; any other has none
abbrev pub power : Float → Float → Float
power base e =
    let n = to_unsigned 32 e in
    cond (nat_le n most_factors && eq e (of_int binary32 (pos n))) (product base n) nan

-- ---- all answers

abbrev pub house : Question → Float → Float → Float
house question.Root x y = root x
house question.Power x y = power x y
house question.Ln x y = nan
house question.Log x y = nan
house question.Sine x y = nan
house question.Cosine x y = nan
house question.Atan x y = nan

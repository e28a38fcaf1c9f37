-- Which number a word writes, and how the bits of a number are written. Assumes nothing.
use Rattle.std.specs.Prelude.{◌≡◌, ℕ, zero, suc, ◌/◌, ◌%◌, ◌^◌, ◌<◌, ◌≤◌, cond, List, [], ◌∷◌, ◌++◌, length, pos, is_some, Some, codes, Option, MatchOption, ◌≢◌, from_bits, is_nan, to_bits, Float}
use Rattle.std.specs.Float.{binary32}
use Rattle.std.specs.Float.Ieee.{of_int}
use Rattle.std.specs.Float.Parse.{is_float_text}
use Rattle.std.specs.Str.Parse.{IsNumeral, without_leading_plus, digits_value}
use Rattle.std.specs.Char.{digit_char}

-- one to eight hex digits
abbrev pub BitDigits : List ℕ → Type 0
BitDigits ds = IsNumeral 16 ds × (length ds ≤ 8)

-- r is the number of those bits, and none where ds are not such digits
abbrev pub ReadsBits : List ℕ → Option Float → Type 0
ReadsBits ds r = MatchOption r (BitDigits ds → ⊥) (λ x. BitDigits ds × (x ≡ from_bits binary32 (digits_value 16 ds)))

-- r is some number where bs writes a float in decimal, and the nearest one where bs writes a whole number
abbrev pub ReadsDecimal : List ℕ → Option Float → Type 0
ReadsDecimal bs r =
    (is_some r ≡ is_float_text bs) × (IsNumeral 10 (without_leading_plus bs) → digits_value 10 (without_leading_plus bs) < 2 ^ 32 → r ≡ Some (of_int binary32 (pos (digits_value 10 (without_leading_plus bs)))))

-- r is the number that a word writes: `0x` and its bits, or a decimal
pub record ReadsNumber (w : List ℕ) (r : Option Float) : Type 0 where
  pub hex : (ds : List ℕ) → w ≡ codes "0x" ++ ds → ReadsBits ds r
  pub decimal : ((ds : List ℕ) → w ≢ codes "0x" ++ ds) → ReadsDecimal w r

-- n is the whole number that a word writes
abbrev pub Whole : List ℕ → ℕ → Type 0
Whole w n = IsNumeral 10 (without_leading_plus w) × (n ≡ digits_value 10 (without_leading_plus w))

-- the lowest k hex digits of n, the highest of them first
abbrev pub hex_text : ℕ → ℕ → List ℕ
hex_text zero n = []
hex_text (suc k) n = hex_text k (n / 16) ++ (digit_char (n % 16) ∷ [])

abbrev pub bits_text : Float → List ℕ
bits_text x = cond (is_nan x) (codes "nan") (hex_text 8 (to_bits binary32 x))

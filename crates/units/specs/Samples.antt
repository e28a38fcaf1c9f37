-- Sample tables: their widths, and what a sample unit answers of them. Assumes nothing.
use Rattle.std.specs.Prelude.{◌≡◌, ℕ, ◌-◌, ◌^◌, ◌<◌, ◌≤◌, min, List, [], ◌∷◌, ◌++◌, length, Some, None, Option, Result, MatchResult, nat_eq, codes, decimal}
use Rattle.std.specs.List.{slice_get, find, All}
use Rattle.units.specs.declared.samples.Width.{Width}
use Rattle.units.specs.declared.samples.Width.TheVariants as variant
use Rattle.units.specs.declared.samples.UnknownWidth.{UnknownWidth}

-- ---- widths

abbrev pub bits_of : Width → ℕ
bits_of variant.One = 1
bits_of variant.Two = 2
bits_of variant.Four = 4
bits_of variant.Eight = 8
bits_of variant.Sixteen = 16
bits_of variant.TwentyFour = 24
bits_of variant.ThirtyTwo = 32

abbrev pub widths : List Width
widths = variant.One ∷ variant.Two ∷ variant.Four ∷ variant.Eight ∷ variant.Sixteen ∷ variant.TwentyFour ∷ variant.ThirtyTwo ∷ []

-- the width of so many bits
abbrev pub width_from : ℕ → Option Width
width_from bits = find (λ w. nat_eq (bits_of w) bits) widths

-- that width, or the number itself where no width has so many bits
abbrev pub WidthOf : ℕ → Result Width UnknownWidth → Type 0
WidthOf bits r = MatchResult r (λ width. width_from bits ≡ Some width) (λ unknown. (width_from bits ≡ None) × (unknown.0 ≡ bits))

abbrev pub unknown_width_text : UnknownWidth → List ℕ
unknown_width_text unknown = codes "no sample has " ++ (decimal unknown.0 ++ codes " bits")

-- ---- tables

pub record Table : Type 0 where
  pub width : Width
  pub samples : List ℕ

abbrev pub most_tables : ℕ
most_tables = 64

-- at most 64 tables, and no sample has more bits than its table's width
abbrev pub WellFormed : List Table → Type 0
WellFormed ts = (length ts ≤ most_tables) × All (λ t. All (λ sample. sample < 2 ^ bits_of t.width) t.samples) ts

-- ---- answers: none exactly where the table or the index is outside

abbrev pub on_table : {A : Type 0} → Option Table → (Table → Option A) → Option A
on_table None f = None
on_table (Some t) f = f t

abbrev pub width_in : List Table → ℕ → Option Width
width_in ts i = on_table (slice_get ts i) (λ t. Some t.width)

-- the count as far as a usize goes: more than that would be samples of 1, 2 or 4 bits in 2 ^ 61 bytes or more
abbrev pub count_of : Table → Option ℕ
count_of t = Some (min (length t.samples) (2 ^ 64 - 1))

abbrev pub count_in : List Table → ℕ → Option ℕ
count_in ts i = on_table (slice_get ts i) count_of

abbrev pub sample_in : List Table → ℕ → ℕ → Option ℕ
sample_in ts i j = on_table (slice_get ts i) (λ t. slice_get t.samples j)

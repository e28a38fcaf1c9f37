-- Cutting a float to an integer, and the float nearest to an integer. Assumes nothing.
use Rattle.std.specs.Prelude.{ℕ, ℤ, Float}
use Rattle.std.specs.Float.{binary32}
use Rattle.std.specs.Float.Ieee.{to_unsigned, to_signed, of_int}

-- the fraction is dropped, a NaN gives 0, and what lies beyond the width gives its nearest end
abbrev pub cut_unsigned : ℕ → Float → ℕ
cut_unsigned bits x = to_unsigned bits x

-- `bits` without the sign: 31 for i32
abbrev pub cut_signed : ℕ → Float → ℤ
cut_signed bits x = to_signed bits x

-- the nearest f32, ties to even
abbrev pub nearest_to : ℤ → Float
nearest_to z = of_int binary32 z

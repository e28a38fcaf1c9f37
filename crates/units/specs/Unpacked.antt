-- The unpacked sample unit: a list of words, one sample each. Assumes nothing.
use Rattle.std.specs.Prelude.{ℕ, ◌^◌, Bool, nat_lt}
use Rattle.units.specs.Samples.{bits_of}
use Rattle.units.specs.declared.samples.Width.{Width}

-- the word has no more bits than the width
abbrev pub word_fits : Width → ℕ → Bool
word_fits width word = nat_lt word (2 ^ bits_of width)

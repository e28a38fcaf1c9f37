-- The packed sample unit: a list of bytes, one sample after the other with no bits between them. Assumes nothing.
use Rattle.std.specs.Prelude.{ℕ, zero, suc, ◌+◌, ◌*◌, ◌/◌, ◌%◌, ◌^◌, List, [], ◌∷◌, ◌++◌, map, length, take, drop}
use Rattle.std.specs.List.{range_with_len}

-- ---- bits, the highest first

-- the lowest n bits of a number
abbrev pub low_bits : ℕ → ℕ → List ℕ
low_bits zero x = []
low_bits (suc n) x = x / 2 ^ n % 2 ∷ low_bits n x

-- the bits of bytes, one byte after the other
abbrev pub bits_in : List ℕ → List ℕ
bits_in [] = []
bits_in (byte ∷ bytes) = low_bits 8 byte ++ bits_in bytes

-- the number that bits spell
abbrev pub number_of : List ℕ → ℕ
number_of [] = 0
number_of (bit ∷ bits) = bit * 2 ^ length bits + number_of bits

-- ---- samples

-- sample i is spelt by as many bits as the width says, from bit i * width on
abbrev pub sample_from : ℕ → List ℕ → ℕ → ℕ
sample_from width bits i = number_of (take width (drop (i * width) bits))

-- all samples in the bytes; bits left over at the end belong to none
abbrev pub packed_samples : ℕ → List ℕ → List ℕ
packed_samples width bytes = map (sample_from width (bits_in bytes)) (range_with_len 0 (8 * length bytes / width))

-- The sizes that functions keep to. Assumes nothing.
use Rattle.std.specs.Prelude.{ℕ, Bool, ◌&&◌, nat_le, nat_lt}

abbrev pub from_one_to : ℕ → ℕ → Bool
from_one_to most n = nat_lt 0 n && nat_le n most

-- the most coefficients of an exponential function, and so Range pairs
abbrev pub most_outputs : ℕ
most_outputs = 32

-- the least length of an output list
abbrev pub full_list : ℕ
full_list = 64

-- the most inputs of a sampled function, the largest Size of one, and the most samples of all
abbrev pub most_inputs : ℕ
most_inputs = 4

abbrev pub most_size : ℕ
most_size = 65535

abbrev pub most_samples : ℕ
most_samples = 1048576

-- the most parts of a stitched function, and how deep stitched functions nest
abbrev pub most_parts : ℕ
most_parts = 32

abbrev pub most_depth : ℕ
most_depth = 8

use Rattle.std.proofs.Common.{◌≡◌, ◌+◌, ◌++◌, take, length}
use Rattle.sampled.specs.Sampled.{sizes_in}
use Rattle.sampled.proofs.sizes.cut_sizes.Given as goal

-- the Sizes so far, and what is left to take
abbrev pub invariant-loop-number : goal.invariant-loop-number
invariant-loop-number l =
    (length l.sizes.items + l.number-iterator.n ≡ 4)
    × (l.sizes.items ++ take l.number-iterator.n (sizes_in l.number-iterator.iter.rest.now) ≡ take 4 (sizes_in l.fn.numbers))

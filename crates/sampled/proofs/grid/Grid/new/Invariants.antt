use Rattle.std.proofs.Common.{◌≡◌, ◌++◌, map}
use Rattle.numeric.specs.Lists.{pairs_of}
use Rattle.numeric.proofs.Flat.{chunk_pair}
use Rattle.sampled.specs.Grid.{domains_of, encodes_of, sizes_of}
use Rattle.sampled.proofs.grid.Grid.new.Given as goal

-- the dimensions so far, and what is left to take
abbrev pub invariant-loop-domain : goal.invariant-loop-domain
invariant-loop-domain l =
    (domains_of l.dimensions.items ++ map chunk_pair l.domain-iterator.a.a.rest.now ≡ pairs_of l.fn.domain)
    × (encodes_of l.dimensions.items ++ map chunk_pair l.domain-iterator.a.b.rest.now ≡ pairs_of l.fn.encode)
    × (sizes_of l.dimensions.items ++ l.domain-iterator.b.rest.now ≡ l.fn.sizes.items)

use Rattle.std.specs.Iterator.Adapters.{zip_first, zip_second}
use Rattle.std.specs.Slice.Iter.{iter_rest}
use Rattle.sampled.proofs.Spreading.{Spreading}
use Rattle.sampled.proofs.grid.Grid.corners.Given as goal

abbrev pub invariant-loop-dimension : goal.invariant-loop-dimension
invariant-loop-dimension l =
    Spreading l.self.dimensions.items l.inputs l.self.outputs (iter_rest (zip_first l.dimension-iterator)) (iter_rest (zip_second l.dimension-iterator)) l.stride l.list.items

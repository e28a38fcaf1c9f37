use Rattle.std.proofs.Common.{◌≡◌, drop}
use Rattle.sampled.specs.Sampled.{add_corners}
use Rattle.sampled.proofs.sums.Source.add_corners.Given as goal

abbrev pub invariant-loop-corner : goal.invariant-loop-corner
invariant-loop-corner g l =
    let tables = g.S.Samples.tables l.self.samples.now in
    let cs = l.corners.list.items in
    add_corners tables l.self.table cs l.initial.sums ≡ add_corners tables l.self.table (drop l.corner-index cs) l.sums

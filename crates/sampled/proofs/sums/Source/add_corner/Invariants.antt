use Rattle.sampled.proofs.Adding.{AddedTo}
use Rattle.sampled.proofs.sums.Source.add_corner.Given as goal

abbrev pub invariant-loop-i : goal.invariant-loop-i
invariant-loop-i g l = AddedTo (g.S.Samples.tables l.self.samples.now) l.self.table l.corner.weight l.corner.offset l.initial.sums l.sums l.i

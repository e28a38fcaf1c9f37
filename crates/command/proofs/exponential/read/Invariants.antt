use Rattle.std.proofs.Common.{length}
use Rattle.command.specs.Left.{text}
use Rattle.command.proofs.Loading.{Goes}
use Rattle.command.proofs.exponential.read.Given as goal

abbrev pub invariant-loop-name : goal.invariant-loop-name
invariant-loop-name l = Goes (text l.initial.words) (text l.words) l.draft

abbrev pub decreases-loop-name : goal.decreases-loop-name
decreases-loop-name l = length (text l.words)

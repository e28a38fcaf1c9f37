use Rattle.std.proofs.Common.{◌≡◌, length, None}
use Rattle.std.specs.List.{All}
use Rattle.session.specs.Jobs.{IsSilent, ReadsOn}
use Rattle.session.specs.Left.{lines_left}
use Rattle.session.proofs.run.Job.run.Given as goal

abbrev pub invariant-loop-open : goal.invariant-loop-open
invariant-loop-open l =
    ReadsOn (lines_left l.initial.self) (lines_left l.self)
    × (All IsSilent (lines_left l.initial.self) → All IsSilent (lines_left l.self) × (l.self.«record» ≡ l.initial.self.«record») × (l.open ≡ None))

abbrev pub decreases-loop-open : goal.decreases-loop-open
decreases-loop-open l = length (lines_left l.self)

use Rattle.std.proofs.Common.{◌≡◌, length}
use Rattle.std.specs.List.{All}
use Rattle.session.specs.Jobs.{IsSilent, ReadsOn}
use Rattle.session.specs.Left.{lines_left}
use Rattle.session.proofs.run.Job.next_call.Given as goal

abbrev pub invariant-loop-at : goal.invariant-loop-at
invariant-loop-at l =
    ReadsOn (lines_left l.initial.self) (lines_left l.self)
    × (All IsSilent (lines_left l.initial.self) → All IsSilent (lines_left l.self) × (l.self.«record» ≡ l.initial.self.«record»))

abbrev pub decreases-loop-at : goal.decreases-loop-at
decreases-loop-at l = length (lines_left l.self)

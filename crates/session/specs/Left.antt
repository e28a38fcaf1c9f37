-- The lines that a job has left. Assumes nothing.
use Rattle.std.specs.Prelude.{◌≡◌, ℕ, List, [], map}
use Rattle.std.specs.Slice.Iter.{iter_rest}
use Rattle.std.specs.Iterator.Adapters.{enumerate_source}
use Rattle.session.specs.declared.run.Job.{Job}

abbrev pub lines_left : Job → List (List ℕ)
lines_left job = map (λ line. line.now) (iter_rest (enumerate_source job.lines))

-- no line is left, and nothing was written
pub record PassesOver (before after : Job) : Type 0 where
  pub ended : lines_left after ≡ []
  pub unwritten : after.«record» ≡ before.«record»

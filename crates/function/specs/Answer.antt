-- What evaluating a function answers, and the units that it asks. Assumes nothing.
use Rattle.std.specs.Prelude.{ℕ, List, length, Ok, Err, Result, slice_index_or, Float}
use Rattle.std.specs.Float.{nan}
use Rattle.fault.specs.declared.cause.Fault.{Fault}
use Rattle.units.specs.declared.question.Question.{Question}
use Rattle.units.specs.Samples.{Table}
use Rattle.function.specs.declared.counts.Counts.{Counts}

-- what an arithmetic unit answers
abbrev pub Meaning : Type 0
Meaning = Question → Float → Float → Float

-- what an arithmetic and a sample unit mean together
pub record Units : Type 0 where
  pub arithmetic : Meaning
  pub tables : List Table

-- the outputs, the steps taken, and the operands dropped on a full stack
pub record Answer : Type 0 where
  pub outputs : List Float
  pub steps : ℕ
  pub drops : ℕ

-- the first input, a NaN where there is none
abbrev pub first : List Float → Float
first xs = slice_index_or xs 0 nan

-- what the caller is told
abbrev pub counts_of : Answer → Counts
counts_of a = record { outputs = length a.outputs; steps = a.steps; drops = a.drops }

abbrev pub reply_of : Result Answer Fault → Result Counts Fault
reply_of (Ok a) = Ok (counts_of a)
reply_of (Err e) = Err e

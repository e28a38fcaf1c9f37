-- What a function makes of its inputs. Assumes nothing.
use Rattle.std.specs.Prelude.{List, Float}
use Rattle.numeric.specs.Interval.{Interval, clamp_all}
use Rattle.function.specs.Answer.{Meaning, Answer, first}
use Rattle.function.specs.Exponential.{factor, mixed}
use Rattle.function.specs.Function.{Function, Body, exponential}

-- what a kind makes of its clamped inputs; to enter a function is one step
abbrev pub compute : Meaning → Body → List Float → Answer
compute μ (exponential c0 c1 n) xs = record { outputs = mixed (factor μ n (first xs)) c0 c1; steps = 1; drops = 0 }

abbrev pub clamp_outputs : List Interval → Answer → Answer
clamp_outputs range a = record { outputs = clamp_all range a.outputs; steps = a.steps; drops = a.drops }

-- the inputs are clamped to the Domain, the outputs to the Range
abbrev pub run : Meaning → Function → List Float → Answer
run μ f xs = clamp_outputs f.range (compute μ f.body (clamp_all f.domain xs))

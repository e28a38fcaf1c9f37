-- The number entries of a function, in their order in the set's list. Assumes nothing.
use Rattle.std.specs.Prelude.{List, [], ◌∷◌, ◌++◌, Some, None, Ok, Err, Option, Result, Float}
use Rattle.fault.specs.declared.cause.Fault.{Fault}
use Rattle.numeric.specs.Lists.{flat}
use Rattle.function.specs.Function.{Function, Body, exponential}

abbrev pub body_numbers : Body → List Float
body_numbers (exponential c0 c1 n) = c0 ++ (c1 ++ (n ∷ []))

-- a pair takes two entries, each other number one; given or by default
abbrev pub numbers_of : Function → List Float
numbers_of f = flat f.domain ++ (flat f.range ++ body_numbers f.body)

-- what is needed, or the fault
abbrev pub judged : {A : Type 0} → Option Fault → A → Result A Fault
judged None needed = Ok needed
judged (Some e) needed = Err e

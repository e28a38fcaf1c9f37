-- Checks in the order in which they are made: the first that fails names the refusal. Assumes nothing.
use Rattle.std.specs.Prelude.{ℕ, Bool, true, cond, ◌&&◌, List, [], ◌∷◌, Some, None, Option}
use Rattle.fault.specs.declared.cause.Cause.{Cause}
use Rattle.fault.specs.declared.cause.Fault.{Fault}

-- a fault with no place of its own
abbrev pub fault : Cause → ℕ → Fault
fault cause index = record { cause = cause; index = index; place = 0 }

-- a test, and the fault where it fails
pub record Check : Type 0 where
  pub holds : Bool
  pub otherwise : Fault

abbrev pub check : Bool → Fault → Check
check holds otherwise = record { holds = holds; otherwise = otherwise }

-- the fault of the first test that fails
abbrev pub first_fault : List Check → Option Fault
first_fault [] = None
first_fault (c ∷ cs) = cond c.holds (first_fault cs) (Some c.otherwise)

-- all tests hold
abbrev pub passes : List Check → Bool
passes [] = true
passes (c ∷ cs) = c.holds && passes cs

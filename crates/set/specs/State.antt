-- The model of a set, and what a loading leaves in the lent lists. Assumes nothing.
use Rattle.std.specs.Prelude.{◌≡◌, ℕ, true, List, length, Some, None, Ok, Err, Result, slice_get, slice_set, Float}
use Rattle.fault.specs.Checks.{first_fault}
use Rattle.fault.specs.declared.cause.Fault.{Fault}
use Rattle.numeric.specs.Lists.{written}
use Rattle.function.specs.Function.{Function}
use Rattle.function.specs.Numbers.{numbers_of}
use Rattle.function.specs.declared.record.Instruction.{Instruction}
use Rattle.function.specs.declared.record.Record.{Record}
use Rattle.set.specs.Fill.{whole}
use Rattle.set.specs.Model.{entries, Model}
use Rattle.set.specs.Lent.{Lists}
use Rattle.set.specs.Steps.{call_checks, opened, opens}
use Rattle.set.specs.View.{functions_in, record_of}
use Rattle.set.specs.declared.set.Set.{Set}

abbrev pub model_of : Set → Model
model_of s = record {
  functions = functions_in s.records.front s.numbers.front;
  free = entries (length s.records.rest) (length s.numbers.rest) (length s.instructions.rest);
}

abbrev pub lists_in : Set → Lists
lists_in s = record { records = whole s.records; numbers = whole s.numbers; instructions = whole s.instructions }

-- the lists hold what they held
pub record Untouched (l l' : Lists) : Type 0 where
  pub records : l'.records ≡ l.records
  pub numbers : l'.numbers ≡ l.numbers
  pub instructions : l'.instructions ≡ l.instructions

-- the set is just opened over these lists, and holds them as they were
pub record Opened (s : Set) (rs : List Record) (ns : List Float) (is : List Instruction) : Type 0 where
  pub fit : opens (entries (length rs) (length ns) (length is)) ≡ true
  pub model : model_of s ≡ opened (entries (length rs) (length ns) (length is))
  pub lists : Untouched (record { records = rs; numbers = ns; instructions = is }) (lists_in s)

-- one record and the function's numbers are written behind what was there, and nothing else
pub record Appended (f : Function) (s s' : Set) : Type 0 where
  pub records : whole s'.records ≡ slice_set (whole s.records) (length s.records.front) (record_of (length s.numbers.front) f)
  pub numbers : whole s'.numbers ≡ written (whole s.numbers) (length s.numbers.front) (numbers_of f)
  pub instructions : whole s'.instructions ≡ whole s.instructions

abbrev pub Stored : Function → Set → Set → Result ℕ Fault → Type 0
Stored f s s' (Ok index) = Appended f s s'
Stored f s s' (Err e) = Untouched (lists_in s) (lists_in s')

-- the record of a function that is called as it must be, or the fault
abbrev pub Fitting : Set → ℕ → ℕ → ℕ → Result Record Fault → Type 0
Fitting s i inputs room (Ok r) = (slice_get s.records.front i ≡ Some r) × (first_fault (call_checks (model_of s).functions i inputs room) ≡ None)
Fitting s i inputs room (Err e) = first_fault (call_checks (model_of s).functions i inputs room) ≡ Some e

-- A set as its callers see it: the loaded functions, and the entries that are still free. Assumes nothing.
use Rattle.std.specs.Prelude.{ℕ, List}
use Rattle.function.specs.Function.{Function}
-- and a number of entries in each of the three lists
pub use Rattle.set.specs.declared.entries.Entries.{Entries}

abbrev pub entries : ℕ → ℕ → ℕ → Entries
entries functions numbers instructions = record { functions = functions; numbers = numbers; instructions = instructions }

-- a function's index is its place in the list
pub record Model : Type 0 where
  pub functions : List Function
  pub free : Entries

-- The lists that a caller lends. Assumes nothing.
use Rattle.std.specs.Prelude.{◌≡◌, true, List, length, Float}
use Rattle.function.specs.declared.record.Instruction.{Instruction}
use Rattle.function.specs.declared.record.Record.{Record}
use Rattle.set.specs.Model.{Entries, entries}
use Rattle.set.specs.Steps.{opens}
use Rattle.set.specs.declared.memory.Memory.{Memory}

-- what the three lists hold, used or not
pub record Lists : Type 0 where
  pub records : List Record
  pub numbers : List Float
  pub instructions : List Instruction

abbrev pub lists_of : Memory → Lists
lists_of m = record { records = m.records.now; numbers = m.numbers.now; instructions = m.instructions.now }

abbrev pub lengths : Memory → Entries
lengths m = entries (length m.records.now) (length m.numbers.now) (length m.instructions.now)

-- the memory holds these lists, and a set can be opened over them
pub record Lent (m : Memory) (rs : List Record) (ns : List Float) (is : List Instruction) : Type 0 where
  pub fit : opens (entries (length rs) (length ns) (length is)) ≡ true
  pub records : m.records.now ≡ rs
  pub numbers : m.numbers.now ≡ ns
  pub instructions : m.instructions.now ≡ is

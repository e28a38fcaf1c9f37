use Rattle.std.proofs.Common.{take}
use Rattle.std.specs.List.{All}
use Rattle.units.proofs.Checking.{Left}
use Rattle.units.specs.Directory.{entry_checks, SamplesFit}
use Rattle.units.proofs.unit.check_tables.Given as goal

abbrev pub invariant-loop-table : goal.invariant-loop-table
invariant-loop-table g l = record {
  left : Left (entry_checks g.E.Entry.can_hold l.entries) l.directory l.table;
  fit : All (SamplesFit g.E.Entry.samples l.entries) (take l.table l.directory);
}

use Rattle.units.proofs.Checking.{Left}
use Rattle.units.specs.Directory.{width_checks}
use Rattle.units.proofs.directory.check_widths.Given as goal

abbrev pub invariant-loop-table : goal.invariant-loop-table
invariant-loop-table l = Left width_checks l.directory l.table

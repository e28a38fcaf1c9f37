use Rattle.std.proofs.Common.{sym}
use Rattle.fault.proofs.Passing.{none_passes}
use Rattle.units.specs.Directory.{entry_checks, directory_checks}
use Rattle.units.proofs.unit.SampleUnit.over.Goals as goal

pub invariant_of-result : goal.invariant_of-result
invariant_of-result g c = record {
  ok = none_passes (directory_checks (entry_checks g.E.Entry.can_hold c.args.entries.now) c.args.directory.now) (sym c.in_ok-check.ensures.fault);
  sound = c.in_ok-check.ensures.sound;
}

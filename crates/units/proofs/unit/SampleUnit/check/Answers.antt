use Rattle.std.proofs.Common.{rules}
use Rattle.std.proofs.lemmas.Bool.{leb-true}
use Rattle.units.proofs.Checking.{directory_fails, directory_goes_on}
use Rattle.units.proofs.Reading.{sound_on_ok}
use Rattle.units.specs.Directory.{entry_checks}
use Rattle.units.proofs.unit.SampleUnit.check.Goals as goal

pub returns-in_err-check_widths-clause-fault : goal.returns-in_err-check_widths-clause-fault
returns-in_err-check_widths-clause-fault g c =
    let first = directory_fails (entry_checks g.E.Entry.can_hold c.args.entries.now) c.args.directory.now _ (leb-true _ _ c.in_ok-demand.ensures) c.in_err-check_widths.ensures in
    search (rules, first)

fault : goal.returns-clause-fault
fault g c = directory_goes_on (entry_checks g.E.Entry.can_hold c.args.entries.now) c.args.directory.now _ (leb-true _ _ c.in_ok-demand.ensures) c.in_ok-check_widths.ensures c.check_tables.ensures.fault

pub returns-clause-fault : goal.returns-clause-fault
returns-clause-fault = fault

pub returns-clause-sound : goal.returns-clause-sound
returns-clause-sound g c = sound_on_ok (entry_checks g.E.Entry.can_hold c.args.entries.now) g.E.Entry.samples c.args.entries.now c.args.directory.now c.check_tables.result (fault g c) c.check_tables.ensures.fit

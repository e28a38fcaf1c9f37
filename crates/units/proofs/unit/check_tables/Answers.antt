use Rattle.std.proofs.Common.{sym, rules}
use Rattle.std.proofs.lemmas.List.{take_all}
use Rattle.std.proofs.lemmas.List.Elements.{All-more, All-same}
use Rattle.units.proofs.Checking.{left_fails, left_passes}
use Rattle.units.specs.Directory.{entry_checks, SamplesFit}
use Rattle.units.proofs.unit.check_tables.Goals as goal

pub returns-in_err-check_table-clause-fault : goal.returns-in_err-check_table-clause-fault
returns-in_err-check_table-clause-fault g c =
    let first = left_fails (entry_checks g.E.Entry.can_hold c.args.entries.now) c.args.directory.now c.loop-table.table _ _ c.loop-table-test.true c.in_err-check_table.ensures.fault c.loop-table.invariant.left in
    search (rules, first)

pub loop-table-preserved : goal.loop-table-preserved
loop-table-preserved g c = record {
  left = left_passes (entry_checks g.E.Entry.can_hold c.args.entries.now) c.args.directory.now c.loop-table.table _ c.loop-table-test.true c.in_ok-check_table.ensures.fault c.loop-table.invariant.left;
  fit = All-more (SamplesFit g.E.Entry.samples c.args.entries.now) c.args.directory.now c.loop-table.table _ c.loop-table-test.true c.loop-table.invariant.fit c.in_ok-check_table.ensures.fit;
}

pub returns-clause-fit : goal.returns-clause-fit
returns-clause-fit g c = All-same (SamplesFit g.E.Entry.samples c.args.entries.now) _ _ (sym (take_all c.loop-table.table c.args.directory.now c.loop-table-test.false)) c.loop-table.invariant.fit

use Rattle.std.proofs.Common.{None, rules}
use Rattle.units.proofs.Checking.{first_entry}
use Rattle.units.proofs.unit.check_table.Goals as goal

pub returns-in-None-clause-fault : goal.returns-in-None-clause-fault
returns-in-None-clause-fault g c =
    let named = first_entry (g.E.Entry.can_hold c.sample_width.result) c.args.table c.args.stretch.start c.part_of.result.now None c.in-None.ensures.first in
    search (rules, named)

pub returns-in-Some-clause-fault : goal.returns-in-Some-clause-fault
returns-in-Some-clause-fault g c =
    let named = first_entry (g.E.Entry.can_hold c.sample_width.result) c.args.table c.args.stretch.start c.part_of.result.now _ c.in-Some.ensures.first in
    search (rules, named)

use Rattle.std.proofs.Common.{◌≡◌, Some, rules}
use Rattle.std.specs.List.{slice_get}
use Rattle.std.proofs.lemmas.Option.{slice_get-get_or}
use Rattle.units.proofs.Reading.{inside}
use Rattle.units.proofs.unit.SampleUnit.table_at.Goals as goal

pub part_of-requires : goal.part_of-requires
part_of-requires g c =
    let u = c.args.self.now in
    let at = slice_get-get_or u.directory.now c.args.table c.in_ok-stretch.stretch.now (search rules) in
    let found : Some c.in_ok-stretch.stretch.now ≡ slice_get u.directory.now c.args.table = search (rules, at) in
    inside g.E.Entry.can_hold u.entries.now u.directory.now c.args.table c.in_ok-stretch.stretch.now u.ok found

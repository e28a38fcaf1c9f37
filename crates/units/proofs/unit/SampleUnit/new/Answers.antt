use Rattle.std.proofs.Common.{refl, ap, ◌∙◌}
use Rattle.units.proofs.Checking.{all_or_none}
use Rattle.units.specs.Directory.{entry_checks, directory_checks, tables_of}
use Rattle.units.proofs.unit.SampleUnit.new.Goals as goal

pub returns : goal.returns
returns g c =
    ap (λ unit. tables_of g.E.Entry.samples unit.entries.now unit.directory.now) c.unwrap_or.ensures
    ∙ all_or_none (directory_checks (entry_checks g.E.Entry.can_hold c.args.entries.now) c.args.directory.now) (λ unit. tables_of g.E.Entry.samples unit.entries.now unit.directory.now)
    (tables_of g.E.Entry.samples c.args.entries.now c.args.directory.now) c.over.result _ c.over.ensures.fault c.over.ensures.tables refl

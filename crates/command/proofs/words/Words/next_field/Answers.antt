use Rattle.std.proofs.Common.{rules, tests}
use Rattle.command.proofs.Naming.{name_found}
use Rattle.command.proofs.words.Words.next_field.Goals as goal

pub returns : goal.returns
returns c = let ran = c.find.ensures.ran in name_found _ _ (λ x b q k. search (rules, tests)) ran.0 _ _ _ _ _ ran.2.1 ran.2.2 ran.3 ran.4

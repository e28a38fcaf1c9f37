use Rattle.std.proofs.Common.{ℕ, List, Some, sym, ap, ◌∙◌, subst}
use Rattle.command.specs.Left.{text}
use Rattle.command.specs.Lines.{Means}
use Rattle.command.proofs.line.read_line.Goals as goal

pub returns-clause-says : goal.returns-clause-says
returns-clause-says c =
    let first = c.in-Some.ensures.steps in
    let told = c.in_ok-command.ensures in
    let left = text c.read_command.new.words in
    let says = subst (λ (s : List ℕ). Means s left c.in_ok-command.command) first.rest told.means in
    (text c.new-words.result, c.new-words.ensures, (sym first.word ∙ ap Some (sym told.named), (left, says, c.in_ok-end.ensures)))

use Rattle.std.proofs.Common.{sym, ap, ◌∙◌, length, arith}
use Rattle.command.specs.Left.{text}
use Rattle.command.specs.Cutting.{followed}
use Rattle.command.proofs.Listing.{list_more, list_end}
use Rattle.command.proofs.Shrinking.{field_word_shortens}
use Rattle.command.proofs.words.Words.floats.Goals as goal

pub loop-word-smaller : goal.loop-word-smaller
loop-word-smaller c =
    let told = c.in-Some.ensures in
    let s = text c.loop-word.self in
    omega (arith, ap length (told.rest ∙ ap (λ o. followed o s) (sym told.word)), field_word_shortens s _ (sym told.word))

pub loop-word-preserved : goal.loop-word-preserved
loop-word-preserved c =
    let told = c.in-Some.ensures in
    list_more c.loop-word.invariant told.word told.rest c.in_ok-float.ensures c.in_ok-push.ensures.items

pub returns : goal.returns
returns c = let told = c.in_default.ensures in list_end c.loop-word.invariant told.word told.rest

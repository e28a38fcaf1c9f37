use Rattle.std.proofs.Common.{◌≡◌, ◌%◌, length, vec_items, map, ap, ◌∙◌, sym, arith}
use Rattle.std.proofs.lemmas.Bool.Decides.{nat_tests}
use Rattle.command.specs.Fields.{pair_of, paired}
use Rattle.command.proofs.Pairing.{paired_chunks}
use Rattle.command.proofs.words.Words.pairs.Goals as goal

pub returns : goal.returns
returns c =
    let xs = vec_items c.in_ok-all.all in
    let same = c.deref.ensures.value in
    let none : length c.as_chunks.result.1.now ≡ 0 = grind (arith, nat_tests) in
    let even = ap (λ ys. length ys % 2) (sym same) ∙ sym c.as_chunks.ensures.back_len ∙ none in
    let two = c.in_ok-two_by_two.ensures ∙ ap (map pair_of) c.as_chunks.ensures.front ∙ paired_chunks _ _ (omega arith) (omega arith) in
    (xs, c.in_ok-all.ensures, even, two ∙ ap paired same)

use Rattle.std.proofs.Common.{◌≡◌, None, Some, sym, ◌∙◌, ap, arith}
use Rattle.std.specs.List.{slice_get}
use Rattle.std.specs.Option.{option_map}
use Rattle.std.proofs.lemmas.Grind.{common_steps}
use Rattle.std.proofs.lemmas.Option.{gets}
use Rattle.numeric.proofs.Flat.{chunk_pair, pair_of_chunk}
use Rattle.numeric.proofs.lists.pair_at.Goals as goal

pub returns-in_err-first : goal.returns-in_err-first
returns-in_err-first c =
    let none : slice_get c.as_chunks.result.0.now c.args.i ≡ None = grind (arith, common_steps, gets) in
    c.from_residual.ensures ∙ sym (pair_of_chunk c.args.list.now c.as_chunks.result.0.now c.args.i c.as_chunks.ensures.front ∙ ap (option_map chunk_pair) none)

pub returns : goal.returns
returns c =
    let some : slice_get c.as_chunks.result.0.now c.args.i ≡ Some c.in_ok-first.field-0.now = grind (arith, common_steps, gets) in
    sym (pair_of_chunk c.args.list.now c.as_chunks.result.0.now c.args.i c.as_chunks.ensures.front ∙ ap (option_map chunk_pair) some)

use Rattle.std.proofs.Common.{List, [], ◌++◌, take, drop, set, get_or, sym, ap, ◌∙◌, arith}
use lib.Ieee.{Float, nan}
use Rattle.std.proofs.lemmas.List.{length-take}
use Rattle.numeric.specs.Lists.{pairs_of}
use Rattle.numeric.proofs.Flat.{chunks_count, pair_in_chunks}
use Rattle.numeric.proofs.Ranges.{clamp_by, clamped_more, clamped_all, clamped_front}
use Rattle.numeric.proofs.between.clamp_output.Goals as goal

pub loop-i-preserved : goal.loop-i-preserved
loop-i-preserved c =
    let ps = pairs_of c.args.range.now in
    let front = c.loop-i.front in
    let i = c.loop-i.i in
    let here = pair_in_chunks c.args.range.now c.as_chunks.result.0.now i [] c.as_chunks.ensures.front (omega (arith, length-take c.min-end.result c.args.outputs.now)) in
    clamped_more ps (take c.min-end.result c.args.outputs.now) front _ i (omega arith)
    (ap (set front i) (c.clamp.ensures.value ∙ ap (λ o. clamp_by o (get_or front i nan)) (sym here))) c.loop-i.invariant

pub returns : goal.returns
returns c =
    let ps = pairs_of c.args.range.now in
    let vs = c.args.outputs.now in
    let end = c.min-end.result in
    let many = chunks_count c.args.range.now c.as_chunks.result.0.now c.as_chunks.ensures.front in
    ap (λ (xs : List Float). xs ++ drop end vs) (clamped_all ps (take end vs) c.loop-i.front c.loop-i.i (omega arith) c.loop-i.invariant)
    ∙ clamped_front ps vs end (omega (arith, many))

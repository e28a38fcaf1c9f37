use Rattle.std.proofs.Common.{List, [], Some, ◌++◌, take, drop, set, get_or, sym, ap, ◌∙◌, arith}
use lib.Ieee.{Float, nan}
use Rattle.std.specs.List.{slice_get}
use Rattle.std.proofs.lemmas.List.{length-take}
use Rattle.std.proofs.lemmas.Option.{slice_get-get_or}
use Rattle.numeric.specs.Lists.{pairs_of}
use Rattle.numeric.proofs.Flat.{chunks_count, pair_in_chunks}
use Rattle.function.proofs.Writing.{over_front}
use Rattle.sampled.specs.Sampled.{decoded}
use Rattle.sampled.proofs.Decoding.{decode_by, decoded_more, decoded_all, decoded_short}
use Rattle.sampled.proofs.sums.put_decoded.Goals as goal

pub loop-i-preserved : goal.loop-i-preserved
loop-i-preserved c =
    let ds = pairs_of c.args.decode.now in
    let ys = c.args.sums.now in
    let front = c.loop-i.front in
    let i = c.loop-i.i in
    let few = length-take c.min-end.result c.args.outputs.now in
    let sum = slice_get-get_or ys i nan (omega (arith, few)) in
    let pair = pair_in_chunks c.args.decode.now c.as_chunks.result.0.now i [] c.as_chunks.ensures.front (omega (arith, few)) in
    decoded_more c.args.top c.args.decode.now ys (take c.min-end.result c.args.outputs.now) front i c.loop-i.invariant _ (omega arith)
    (ap (set front i) (c.interpolate.ensures ∙ sym (ap (λ o. decode_by c.args.top o (slice_get ds i) (get_or front i nan)) sum ∙ ap (λ o. decode_by c.args.top (Some (get_or ys i nan)) o (get_or front i nan)) pair)))

pub returns : goal.returns
returns c =
    let ds = pairs_of c.args.decode.now in
    let old = c.args.outputs.now in
    let end = c.min-end.result in
    let many = chunks_count c.args.decode.now c.as_chunks.result.0.now c.as_chunks.ensures.front in
    ap (λ (xs : List Float). xs ++ drop end old) (decoded_all c.args.top c.args.decode.now c.args.sums.now (take end old) c.loop-i.front c.loop-i.i c.loop-i.invariant (omega arith))
    ∙ over_front (decoded c.args.top ds c.args.sums.now) old end (omega (arith, many, decoded_short c.args.top ds c.args.sums.now))

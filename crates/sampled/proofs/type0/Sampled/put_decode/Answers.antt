use Rattle.std.proofs.Common.{subst}
use Rattle.numeric.specs.Lists.{flat, Lays}
use Rattle.numeric.proofs.Laying.{lays_flat}
use Rattle.sampled.proofs.type0.Sampled.put_decode.Goals as goal

pub returns : goal.returns
returns c =
    subst (λ ps. Lays c.args.list.now c.args.at (flat ps) c.put.new.list c.put.result) c.decode_pairs-pairs.ensures (lays_flat c.decode_pairs-pairs.result.now c.put.ensures)

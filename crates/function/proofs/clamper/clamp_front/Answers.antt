use Rattle.numeric.specs.Lists.{pairs_of}
use Rattle.function.proofs.Clamping.{front_clamped}
use Rattle.function.proofs.clamper.clamp_front.Goals as goal

pub returns : goal.returns
returns c = rw c.clamp_output.ensures (front_clamped (pairs_of c.args.range.now) c.args.outputs.now c.args.count c.min-end.result c.min-end.ensures)

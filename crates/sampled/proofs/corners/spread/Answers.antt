use Rattle.std.proofs.Common.{length, ap, arith}
use Rattle.sampled.proofs.Spreading.{spread_room, spread_more}
use Rattle.sampled.proofs.corners.spread.Goals as goal

pub push_split-requires-clause-room : goal.push_split-requires-clause-room
push_split-requires-clause-room c =
    let room = spread_room c.args.key c.args.stride c.args.corners.now c.loop-corner.corner-index c.loop-corner-test.true in
    omega (arith, ap length c.loop-corner.invariant)

pub loop-corner-preserved : goal.loop-corner-preserved
loop-corner-preserved c =
    spread_more c.args.key c.args.stride c.args.corners.now c.loop-corner.corner-index _ _ _ c.loop-corner-test.true c.push_split.ensures c.loop-corner.invariant

use Rattle.std.proofs.Common.{◌≡◌, take}
use Rattle.sampled.specs.Sampled.{spread}
use Rattle.sampled.proofs.corners.spread.Given as goal

abbrev pub invariant-loop-corner : goal.invariant-loop-corner
invariant-loop-corner l = l.list.items ≡ spread l.key l.stride (take l.corner-index l.corners)

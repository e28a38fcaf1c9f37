use Rattle.std.proofs.Common.{◌≡◌, take}
use Rattle.numeric.specs.Lists.{pairs_of}
use Rattle.function.specs.Outputs.{over}
use Rattle.sampled.specs.Sampled.{decoded}
use Rattle.sampled.proofs.sums.put_decoded.Given as goal

abbrev pub invariant-loop-i : goal.invariant-loop-i
invariant-loop-i l = l.front ≡ over (take l.i (decoded l.top (pairs_of l.decode) l.sums)) l.initial.front

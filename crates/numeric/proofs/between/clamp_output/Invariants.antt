use Rattle.numeric.proofs.Ranges.{ClampedTo}
use Rattle.numeric.specs.Lists.{pairs_of}
use Rattle.numeric.proofs.between.clamp_output.Given as goal

-- the outputs so far are clamped, and what is left gives the rest
abbrev pub invariant-loop-i : goal.invariant-loop-i
invariant-loop-i l = ClampedTo (pairs_of l.range) l.initial.front l.front l.i

use Rattle.std.proofs.Common.{arith}
use Rattle.command.proofs.Loading.{goes_more, goes_end}
use Rattle.command.proofs.Shrinking.{name_shortens, filled_shortens}
use Rattle.command.proofs.exponential.read.Goals as goal

pub loop-name-smaller : goal.loop-name-smaller
loop-name-smaller c = omega (arith, name_shortens c.in-Some.ensures, filled_shortens c.in_ok-read_field.ensures)

pub loop-name-preserved : goal.loop-name-preserved
loop-name-preserved c = goes_more c.loop-name.invariant c.in-Some.ensures c.in_ok-read_field.ensures

pub returns : goal.returns
returns c = goes_end c.finish.result c.loop-name.invariant c.in_default.ensures c.finish.ensures

use Rattle.std.proofs.Common.{◌∙◌}
use Rattle.units.proofs.Nans.{nan_is}
use Rattle.numeric.specs.Lists.{pairs_of}
use Rattle.function.proofs.Clamping.{first_none}
use Rattle.function.proofs.clamper.clamp_first.Goals as goal

pub returns-in_default : goal.returns-in_default
returns-in_default c = nan_is ∙ first_none (pairs_of c.args.domain.now) c.args.inputs.now c.in_default.ensures.value

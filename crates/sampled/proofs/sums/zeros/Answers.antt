use Rattle.std.proofs.Common.{take, ap, ◌∙◌}
use Rattle.std.proofs.lemmas.List.{take-replicate}
use Rattle.sampled.specs.Sampled as sampled
use Rattle.sampled.proofs.sums.zeros.Goals as goal

pub returns : goal.returns
returns c =
    c.truncate.ensures.items ∙ ap (take c.args.count) c.from-list.ensures.0 ∙ take-replicate c.args.count 32 sampled.zero c.requires

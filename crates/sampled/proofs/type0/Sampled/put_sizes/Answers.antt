use Rattle.std.proofs.Common.{ℕ, pos, rules}
use Rattle.numeric.specs.Whole.{nearest_to}
use Rattle.numeric.proofs.Laying.{lays_numbers}
use Rattle.sampled.proofs.type0.Sampled.put_sizes.Goals as goal

pub returns : goal.returns
returns c =
    let size = λ (s : ℕ). nearest_to (pos s) in
    lays_numbers c.args.self.now.sizes.now size (c.put_each.ensures size (λ x p e. search rules))

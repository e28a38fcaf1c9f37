use Rattle.std.proofs.Common.{◌-◌, ℕ, pos, ◌∙◌, rules, tests}
use Rattle.std.specs.Float.{float_is_finite}
use Rattle.std.proofs.lemmas.Iterator.{YieldsList-from_slice}
use Rattle.std.proofs.lemmas.Iterator.Search.{all_from_yields_List}
use Rattle.numeric.specs.Whole.{nearest_to}
use Rattle.sampled.proofs.Grids.{points_finite}
use Rattle.sampled.proofs.sizes.grid_finite.Goals as goal

pub returns : goal.returns
returns c =
    all_from_yields_List (λ (s : ℕ). float_is_finite (nearest_to (pos (s - 1)))) _ _ _ c.all.ensures.ran (YieldsList-from_slice c.args.sizes.now cc) (λ x b q k. search (rules, tests))
    ∙ points_finite c.args.sizes.now

use Rattle.std.proofs.Common.{sym, ◌∙◌, rules, tests}
use Rattle.std.proofs.lemmas.Iterator.{YieldsList-from_slice}
use Rattle.std.proofs.lemmas.Iterator.Search.{all_from_yields_List}
use Rattle.function.specs.Limits.{from_one_to, most_size}
use Rattle.sampled.proofs.Fitting.{fit_capped}
use Rattle.sampled.proofs.sizes.sizes_fit.Goals as goal

pub returns-then-all : goal.returns-then-all
returns-then-all c =
    let all = all_from_yields_List (from_one_to most_size) _ _ c.all.result c.all.ensures.ran (YieldsList-from_slice c.args.sizes.now cc) (λ x b q k. search (rules, tests)) in
    fit_capped c.args.sizes.now c.args.outputs c.fold-samples.result (sym all ∙ c.if-all.true) (search rules)

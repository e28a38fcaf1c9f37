use Rattle.std.proofs.Common.{◌≡◌, rules, tests}
use Rattle.std.proofs.lemmas.Iterator.{YieldsList-from_slice}
use Rattle.std.proofs.lemmas.Iterator.Search.{find_from_yields_List}
use Rattle.std.specs.List.{find}
use Rattle.std.specs.Option.{option_map}
use Rattle.units.specs.Recorded.{fitting}
use Rattle.units.proofs.Answering.{recorded_found}
use Rattle.units.proofs.Nans.{nan_is}
use Rattle.units.proofs.recorded.first_answer.Goals as goal

pub returns : goal.returns
returns c =
    let fits = fitting c.args.question c.args.x c.args.y in
    let found : option_map (λ item. item.now) c.find.result ≡ find fits c.args.items.now =
    find_from_yields_List fits _ _ c.find.result c.find.ensures.ran (YieldsList-from_slice c.args.items.now (cc)) (λ x b q k. search (rules, tests)) in
    let answer = recorded_found c.args.question c.args.x c.args.y c.args.items.now in
    search (rules, nan_is, found, answer)

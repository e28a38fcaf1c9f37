use Rattle.std.proofs.Common.{◌≡◌, rules, tests}
use lib.Ieee.{lt}
use Rattle.std.proofs.lemmas.Iterator.{YieldsList-from_slice}
use Rattle.std.proofs.lemmas.Iterator.Search.{position_from_yields_List}
use Rattle.stitched.specs.Stitched.{pick}
use Rattle.stitched.proofs.Choosing.{pick_found}
use Rattle.stitched.proofs.Single.{only_part}
use Rattle.stitched.proofs.type3.find_interval.Goals as goal

pub returns : goal.returns
returns c =
    let bounds = c.args.bounds.now in
    let x = c.args.x in
    let found = position_from_yields_List (λ b. lt x b) _ _ c.position.result c.position.ensures.ran (YieldsList-from_slice bounds cc) (λ b t q k. search (rules, tests)) in
    let place : c.unwrap_or.result ≡ pick bounds x = rw (c.unwrap_or.ensures, found) (pick_found bounds x) in
    record { place = place; only = only_part bounds x _ place }

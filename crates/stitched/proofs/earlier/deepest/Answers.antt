use Rattle.std.proofs.Common.{rules}
use Rattle.std.proofs.lemmas.Iterator.{YieldsList-from_slice, YieldsList-from_map}
use Rattle.std.proofs.lemmas.Iterator.Adapters.{option_map_id}
use Rattle.std.proofs.lemmas.Iterator.Consumers.{max_from_yields_List}
use Rattle.stitched.specs.Stitched.{depth_of}
use Rattle.stitched.proofs.Nesting.{reduce_deepest}
use Rattle.stitched.proofs.earlier.deepest.Goals as goal

pub returns : goal.returns
returns g c =
    let depths = depth_of (g.E.Earlier.known c.args.earlier.now) in
    let largest = max_from_yields_List c.map.result c.max.result c.max.ensures.ran (YieldsList-from_map _ depths (YieldsList-from_slice c.args.parts.now cc) c.map.ensures.closure (λ x r q k. search rules)) in
    rw (c.unwrap_or.ensures, ← option_map_id c.max.result, largest, reduce_deepest)

use Rattle.std.proofs.Common.{rules}
use Rattle.std.proofs.lemmas.Option.{unwrap_or-slice_get}
use Rattle.stitched.specs.Stitched.{no_earlier}
use Rattle.stitched.proofs.earlier.depth_of.Goals as goal

pub returns : goal.returns
returns g c =
    let e = unwrap_or-slice_get (g.E.Earlier.known c.args.earlier.now) c.args.index no_earlier in
    search rules

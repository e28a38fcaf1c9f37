use Rattle.std.proofs.Common.{◌≡◌, get_or}
use lib.Ieee.{nan}
use Rattle.numeric.specs.Lists.{pairs_of}
use Rattle.stitched.proofs.Choosing.{default_pair, pairs_fit}
use Rattle.stitched.proofs.type3.pair_or_nan.Goals as goal

pub returns : goal.returns
returns c =
    let pair : c.unwrap_or.result ≡ get_or (pairs_of c.args.numbers.now) c.args.i (nan, nan) = rw (c.unwrap_or.ensures, c.pair_at.ensures, default_pair) in
    record { pair = pair; single = rw pair (pairs_fit c.args.numbers.now c.type_inv.numbers c.args.i) }

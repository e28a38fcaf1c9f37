use Rattle.std.proofs.Common.{sym}
use Rattle.numeric.proofs.Flat.{pairs_count}
use Rattle.numeric.proofs.lists.pair_count.Goals as goal

pub returns : goal.returns
returns c = sym (pairs_count c.args.list.now)

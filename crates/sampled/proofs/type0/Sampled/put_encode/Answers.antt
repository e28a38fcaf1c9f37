use Rattle.std.proofs.Common.{ℕ, ◌-◌, pos, sym, subst, rules}
use Rattle.numeric.specs.Interval.{Interval}
use Rattle.numeric.specs.Lists.{flat, Lays}
use Rattle.numeric.specs.Whole.{nearest_to}
use Rattle.numeric.proofs.Laying.{lays_pairs, lays_flat}
use Rattle.sampled.specs.Sampled.{pairs_or, whole_grid}
use Rattle.sampled.specs.Sampled as sampled
use Rattle.sampled.proofs.type0.Sampled.put_encode.Goals as goal

pub returns-in-None : goal.returns-in-None
returns-in-None c =
    let sizes = c.args.self.now.sizes.now in
    let pair : ℕ → Interval = λ s. (sampled.zero, nearest_to (pos (s - 1))) in
    subst (λ o. Lays c.args.list.now c.args.at (flat (pairs_or o (whole_grid sizes))) c.put_each.new.list c.put_each.result) (sym c.in-None.is)
    (lays_pairs sizes pair (c.put_each.ensures pair (λ x p e. search rules)))

pub returns-in-Some : goal.returns-in-Some
returns-in-Some c =
    subst (λ o. Lays c.args.list.now c.args.at (flat (pairs_or o (whole_grid c.args.self.now.sizes.now))) c.put.new.list c.put.result) (sym c.in-Some.is) (lays_flat c.in-Some.given.now c.put.ensures)

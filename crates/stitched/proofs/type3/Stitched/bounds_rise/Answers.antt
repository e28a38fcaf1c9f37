use Rattle.std.proofs.Common.{rules, tests, ◌∙◌}
use lib.Ieee.{nan}
use Rattle.numeric.specs.Interval.{within}
use Rattle.numeric.proofs.Every.{every_slice}
use Rattle.stitched.proofs.Choosing.{default_pair}
use Rattle.stitched.proofs.Rising.{sorted_rise, unsorted_falls}
use Rattle.stitched.proofs.type3.Stitched.bounds_rise.Goals as goal

pub returns-then-is_sorted : goal.returns-then-is_sorted
returns-then-is_sorted c =
    let bounds = c.args.self.now.bounds.now in
    let ends = c.unwrap_or-low.result in
    let next = rw c.if-is_sorted.true at c.is_sorted.ensures.cases in
    let all = every_slice (within ends) bounds (cc) c.all.ensures.ran (λ b t q k. search (rules, tests)) in
    rw (← default_pair, ← c.first.ensures.value, ← c.copied.ensures, ← c.unwrap_or-low.ensures) (all ∙ sorted_rise ends.0 ends.1 bounds next)

pub returns-else-is_sorted : goal.returns-else-is_sorted
returns-else-is_sorted c =
    let falls = rw c.if-is_sorted.false at c.is_sorted.ensures.cases in
    c.if-is_sorted.false ∙ unsorted_falls _ _ c.args.self.now.bounds.now falls.0 falls.1 (falls.2 nan)

use Rattle.std.proofs.Common.{◌≡◌, ◌+◌, ◌*◌, take}
use Rattle.std.specs.List.{flat_map}
use Rattle.numeric.specs.Lists.{written, Makes}
use Rattle.numeric.proofs.lists.put_each.Given as goal

-- the numbers of the items so far lie in the list
abbrev pub invariant-loop-item : goal.invariant-loop-item
invariant-loop-item g l =
    (l.end ≡ l.fn.at + l.item-index * g.P.Numbers.COUNT)
    × ((f : g.row.T.Denot → g.row.P.Denot) → Makes g.F.Fn l.make f → l.list ≡ written l.initial.list l.fn.at (flat_map (λ x. g.P.Numbers.numbers (f x)) (take l.item-index l.items)))

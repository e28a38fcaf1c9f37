use Rattle.std.proofs.Common.{◌≡◌, ◌+◌, ◌*◌, take}
use Rattle.std.specs.List.{flat_map}
use Rattle.numeric.specs.Lists.{written}
use Rattle.numeric.proofs.numbers.Numbers.put_all.Given as goal

-- the numbers of the items so far lie in the list
abbrev pub invariant-loop-item : goal.invariant-loop-item
invariant-loop-item g l =
    (l.end ≡ l.fn.at + l.item-index * g.Self.Numbers.COUNT)
    × (l.list ≡ written l.initial.list l.fn.at (flat_map g.Self.Numbers.numbers (take l.item-index l.items)))

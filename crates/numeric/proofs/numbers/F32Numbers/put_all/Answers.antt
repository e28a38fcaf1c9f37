use Rattle.std.proofs.Common.{◌+◌, ◌-◌, [], ◌∷◌, length, refl, arith}
use Rattle.numeric.proofs.Laying.{fits_from, put_whole, mid_written, room_each, each_none, lays_ones}
use Rattle.numeric.proofs.numbers.F32Numbers.put_all.Goals as goal

pub returns-then-not-has_room : goal.returns-then-not-has_room
returns-then-not-has_room c = each_none c.args.list.now c.args.at 1 c.args.items.now (λ x. x ∷ []) (λ _. refl) _ 1 (refl, c.has_room.ensures) c.if-not-has_room.true

pub returns : goal.returns
returns c =
    let list = c.args.list.now in
    let at = c.args.at in
    let xs = c.args.items.now in
    let room = room_each list at 1 xs _ 1 (refl, c.has_room.ensures) c.if-not-has_room.false in
    lays_ones xs
    (put_whole list at xs _ _ (fits_from list at xs (omega (arith, room)) (omega (arith, room))) refl (mid_written list at (at + length xs - at) xs _ (omega arith) c.copy_from_slice.ensures.after))

use Rattle.std.proofs.Common.{refl, arith}
use Rattle.numeric.proofs.Laying.{part_laid, room_each, room_next, each_none, each_more, each_all}
use Rattle.numeric.proofs.numbers.Numbers.put_all.Goals as goal

pub returns-then-not-has_room : goal.returns-then-not-has_room
returns-then-not-has_room g c = each_none c.args.list.now c.args.at _ c.args.items.now _ g.met.Self.Numbers.counted _ _ (c.COUNT.ensures, c.has_room.ensures) c.if-not-has_room.true

pub loop-item-preserved : goal.loop-item-preserved
loop-item-preserved g c =
    let room = room_each c.args.list.now c.args.at _ c.args.items.now _ _ (c.COUNT.ensures, c.has_room.ensures) c.if-not-has_room.false in
    let next = room_next c.args.list.now c.args.at _ c.args.items.now _ _ room c.loop-item-test.true c.loop-item.invariant.0 in
    let long = g.met.Self.Numbers.counted c.item-item.result in
    let laid = part_laid c.loop-item.list c.loop-item.end _ _ _ _ (omega (arith, c.COUNT-in-loop-item.ensures, long)) (omega (arith, c.loop-item.auto.list, c.COUNT-in-loop-item.ensures, next)) c.put_at.ensures in (
      grind (arith, c.COUNT-in-loop-item.ensures, c.loop-item.invariant.0),
      each_more c.args.list.now c.args.at _ c.args.items.now _ g.met.Self.Numbers.counted c.loop-item.item-index _ _ _ _ _ c.loop-item-test.true c.item-item.is c.loop-item.invariant.0 room c.loop-item.invariant.1 laid refl,
    )

pub returns : goal.returns
returns g c =
    each_all c.args.list.now c.args.at _ c.args.items.now _ g.met.Self.Numbers.counted _ _ c.loop-item.item-index _ _ (c.COUNT.ensures, c.has_room.ensures) c.if-not-has_room.false
    c.loop-item.auto.item-index-end c.loop-item-test.false c.loop-item.invariant.0 c.loop-item.invariant.1

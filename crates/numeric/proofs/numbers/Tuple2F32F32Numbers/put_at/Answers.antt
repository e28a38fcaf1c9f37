use Rattle.std.proofs.Common.{[], ◌∷◌, sym, refl, ◌∙◌, arith}
use Rattle.numeric.proofs.Laying.{fits_room, put_whole, written_two}
use Rattle.numeric.proofs.numbers.Tuple2F32F32Numbers.put_at.Goals as goal

pub returns : goal.returns
returns c =
    let xs = c.args.self.0 ∷ c.args.self.1 ∷ [] in
    let fit = sym c.has_room.ensures ∙ c.if-not-has_room.false in
    let room = fits_room c.args.list.now c.args.at xs fit in
    put_whole c.args.list.now c.args.at xs _ _ fit refl (written_two c.args.list.now c.args.at c.args.self.0 c.args.self.1 (omega (arith, room)))

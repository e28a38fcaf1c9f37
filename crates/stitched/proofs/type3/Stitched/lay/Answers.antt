use Rattle.std.proofs.Common.{rules, arith}
use Rattle.numeric.proofs.Laying.{lays_numbers, lays_all, lays_flat}
use Rattle.stitched.specs.Stitched.{index_number}
use Rattle.stitched.proofs.Storing.{own_laid}
use Rattle.stitched.proofs.type3.Stitched.lay.Goals as goal

pub returns : goal.returns
returns c =
    let s = c.args.self.now in
    let parts = lays_numbers s.parts.now index_number (c.put_each-bounds.ensures index_number (λ p x e. search rules)) in
    own_laid s (omega (arith, c.in-Some.ensures)) parts (lays_all s.bounds.now c.put-encode.ensures) (lays_flat s.encode.now c.put.ensures)

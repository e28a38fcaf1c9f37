use Rattle.std.proofs.Common.{◌≡◌, ◌^◌, List, [], ◌∷◌, length, sym, ap, subst, rules, arith}
use Rattle.std.specs.Iterator.Adapters.{zip_first, zip_second}
use Rattle.std.specs.Slice.Iter.{iter_rest}
use Rattle.std.proofs.lemmas.Slice.Zip.{either_empty_from_Zip}
use Rattle.sampled.specs.declared.type0.Corner.{Corner}
use Rattle.sampled.specs.Grid.{place_of}
use Rattle.sampled.specs.Sampled.{corner, one, spread, OffsetsBelow}
use Rattle.sampled.proofs.Spreading.{Spreading, spreading_none, spreading_at, spreading_turn, spreading_stride, spreading_below, spreading_room, spreading_product, spreading_more, spreading_all}
use Rattle.sampled.proofs.grid.Grid.corners.Goals as goal

pub loop-dimension-init : goal.loop-dimension-init
loop-dimension-init c =
    let grid = c.args.self.now in
    let it = c.into_iter-dimension-iterator.result in
    let dimensions : grid.dimensions.items ≡ iter_rest (zip_first it) = search rules in
    let inputs : c.args.inputs.now ≡ iter_rest (zip_second it) = search rules in
    let start : corner one 0 ∷ [] ≡ c.push.new.self.items = search rules in
    subst (λ (cs : List Corner). Spreading grid.dimensions.items c.args.inputs.now grid.outputs (iter_rest (zip_first it)) (iter_rest (zip_second it)) grid.outputs cs) start
    (spreading_at dimensions inputs (spreading_none grid.dimensions.items c.args.inputs.now grid.outputs grid.few grid.fit))

pub spread-list-requires : goal.spread-list-requires
spread-list-requires c =
    let s = spreading_turn c.loop-dimension.dimension-iterator c.next.new.self c.in-Some.is c.next.ensures.steps c.loop-dimension.invariant in
    let same = c.deref-in-loop-dimension.ensures.0 in
    record {
      stride = spreading_stride s;
      offsets = subst (OffsetsBelow (2 ^ 63)) (sym same) (spreading_below s);
      room = omega (arith, spreading_room s, ap length same);
    }

pub overflow_mul-stride : goal.overflow_mul-stride
overflow_mul-stride c = omega (arith, spreading_product (spreading_turn c.loop-dimension.dimension-iterator c.next.new.self c.in-Some.is c.next.ensures.steps c.loop-dimension.invariant))

pub loop-dimension-preserved : goal.loop-dimension-preserved
loop-dimension-preserved c =
    let made : c.spread-list.result.items ≡ spread (place_of c.in-Some.dimension.now c.in-Some.input.now) c.loop-dimension.stride c.loop-dimension.list.items = search rules in
    spreading_more (spreading_turn c.loop-dimension.dimension-iterator c.next.new.self c.in-Some.is c.next.ensures.steps c.loop-dimension.invariant) _ made

pub returns : goal.returns
returns c = spreading_all (either_empty_from_Zip c.loop-dimension.dimension-iterator c.next.new.self _ c.in-None.is c.next.ensures.steps) c.loop-dimension.invariant

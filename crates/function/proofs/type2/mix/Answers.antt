use Rattle.std.proofs.Common.{◌<◌, length, inl, inr, arith}
use Rattle.std.proofs.lemmas.Bool.{cases_lt}
use Rattle.function.proofs.Mixing.{mixed_length}
use Rattle.function.proofs.Writing.{left_more, left_all}
use Rattle.function.proofs.type2.mix.Goals as goal

pub loop-i-preserved : goal.loop-i-preserved
loop-i-preserved c =
    let step = c.in-Some.ensures.steps in
    let i = c.loop-i.i-iterator.iter.count in
    let here : i < length c.loop-i.outputs = omega (arith, step.1) in
    let left = rw (step.0.0.0, step.0.0.1) at c.loop-i.invariant.left in
    record {
      room = omega (arith, step.1);
      left = rw (step.0.1, step.0.2) (left_more _ c.loop-i.outputs i _ _ here left);
    }

pub returns : goal.returns
returns c =
    let i = c.loop-i.i-iterator.iter.count in
    left_all _ c.loop-i.outputs i _
    (elim (cases_lt 0 c.loop-i.i-iterator.n) [
      | inl some ↦ elim (c.in-None.ensures.steps some).0 [ inl a ↦ inl (omega (arith, mixed_length, a.1.0)) | inr b ↦ inl (omega (arith, mixed_length, b.1.0)) ]
      | inr none ↦ inr (omega arith)
    ]) c.loop-i.invariant.left

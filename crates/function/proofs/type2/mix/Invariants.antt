use Rattle.std.proofs.Common.{◌≡◌, ◌+◌, length}
use Rattle.function.specs.Exponential.{mixed}
use Rattle.function.specs.Outputs.{over}
use Rattle.function.proofs.Writing.{Left}
use Rattle.function.proofs.type2.mix.Given as goal

abbrev pub invariant-loop-i : goal.invariant-loop-i
invariant-loop-i l =
    let pairs = l.i-iterator.iter.iter in
    record {
      room : l.i-iterator.n + l.i-iterator.iter.count ≡ length l.initial.outputs;
      left : Left (over (mixed l.factor l.c0 l.c1) l.initial.outputs) l.outputs l.i-iterator.iter.count (mixed l.factor pairs.a.rest.now pairs.b.rest.now);
    }

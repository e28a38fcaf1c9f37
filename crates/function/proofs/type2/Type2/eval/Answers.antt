use Rattle.std.proofs.Common.{◌≡◌, length, sym, refl, ◌∙◌}
use Rattle.numeric.specs.Lists.{pairs_of}
use Rattle.numeric.proofs.Ranges.{length_clamp_all}
use Rattle.function.specs.Exponential.{mixed}
use Rattle.function.proofs.Clamping.{over_clamped}
use Rattle.function.proofs.Mixing.{mixed_length}
use Rattle.function.proofs.type2.Type2.eval.Goals as goal

pub returns : goal.returns
returns g c =
    let f = c.args.self.now in
    let ps = pairs_of f.range.now in
    let old = c.args.outputs.now in
    let new = mixed c.factor_of-factor.result f.c0.now f.c1.now in
    let same = rw c.clamp_first-x.ensures at c.factor_of-factor.ensures.value in
    let count : c.min-count.result ≡ length new = c.min-count.ensures ∙ sym (mixed_length _ f.c0.now f.c1.now) in
    record {
      counts = rw (count, ← length_clamp_all ps new, same) refl;
      wrote = rw (c.clamp_front.ensures, count, c.mix.ensures, over_clamped ps new old, same) refl;
      keeps = c.factor_of-factor.ensures.keeps;
    }

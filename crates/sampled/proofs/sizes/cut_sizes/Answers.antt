use Rattle.std.proofs.Common.{◌≡◌, ◌++◌, [], ◌∷◌, suc, ap, ◌∙◌, rules, arith}
use Rattle.sampled.proofs.Fitting.{cut_more}
use Rattle.sampled.proofs.sizes.cut_sizes.Goals as goal

pub loop-number-preserved : goal.loop-number-preserved
loop-number-preserved c =
    let count : c.loop-number.number-iterator.n ≡ suc c.next.new.self.n = search rules in
    let first : c.loop-number.number-iterator.iter.rest.now ≡ c.in-Some.number.now ∷ c.next.new.self.iter.rest.now = search rules in (
      omega (arith, c.push.ensures.len, count, c.loop-number.invariant.0),
      cut_more c.loop-number.sizes.items count first (c.push.ensures.items ∙ ap (λ s. c.loop-number.sizes.items ++ (s ∷ [])) c.cut.ensures) c.loop-number.invariant.1,
    )

use Rattle.std.proofs.Common.{◌≡◌, ◌+◌, ◌*◌, true, ◌&&◌, [], ◌∷◌, ◌++◌, length, sym, refl, ap, ◌∙◌, arith, length-append, rules}
use Rattle.std.proofs.lemmas.Bool.{and_from}
use Rattle.fault.specs.Checks.{passes}
use Rattle.numeric.specs.Interval.{rises}
use Rattle.numeric.specs.Lists.{every}
use Rattle.function.specs.Exponential.{exponential_of, given_checks, c0_of, c1_of}
use Rattle.function.specs.Numbers.{numbers_of}
use Rattle.function.proofs.Judging.{judged_passes, numbers_length}
use Rattle.function.proofs.type2.Exponential.check.Goals as goal

pub returns : goal.returns
returns c =
    let e = c.args.self.now in
    let counts = sym c.counts_fit.ensures ∙ c.in_ok-demand.ensures in
    let finite = sym c.all_finite.ensures ∙ c.in_ok-demand-2.ensures in
    let rise : (every rises e.domain.now && every rises e.range.now) ≡ true = search rules in
    let agree = sym c.counts_agree.ensures ∙ c.in_ok-demand-4.ensures in
    let all : passes (given_checks c.args.index e) ≡ true = and_from _ _ counts (and_from _ _ finite (and_from _ _ rise (and_from _ _ agree refl))) in
    let n = numbers_length (exponential_of e) in
    let own = length-append (c0_of e) (c1_of e ++ (e.n ∷ [])) in
    let last = length-append (c1_of e) (e.n ∷ []) in
    let c0 = ap length c.c0_numbers.ensures in
    let c1 = ap length c.c1_numbers.ensures in
    let sum : 2 * length e.domain.now + 2 * length e.range.now + (length c.c0_numbers.result.now + length c.c1_numbers.result.now) + 1 ≡ length (numbers_of (exponential_of e)) = omega arith in
    judged_passes (given_checks c.args.index e) _ _ all sum

use Rattle.std.proofs.Common.{◌≡◌, ℕ, suc, ◌+◌, ◌*◌, true, ◌&&◌, ltb, length, sym, refl, ap, ◌∙◌, arith, rules}
use Rattle.std.proofs.lemmas.Bool.{and_from}
use Rattle.fault.specs.Checks.{passes}
use Rattle.numeric.specs.Interval.{rises}
use Rattle.numeric.specs.Lists.{every}
use Rattle.function.proofs.Judging.{judged_passes}
use Rattle.stitched.specs.Stitched.{given_checks, given_needs, deepest}
use Rattle.stitched.proofs.Storing.{given_length}
use Rattle.stitched.proofs.type3.Stitched.check.Goals as goal

pub returns : goal.returns
returns g c =
    let s = c.args.self.now in
    let earlier = g.E.Earlier.known c.args.earlier.now in
    let counts = sym c.counts_fit.ensures ∙ c.in_ok-demand.ensures in
    let finite = sym c.all_finite.ensures ∙ c.in_ok-demand-2.ensures in
    let rise : (every rises s.domain.now && every rises s.range.now) ≡ true = search rules in
    let agree = sym c.counts_agree.ensures ∙ c.in_ok-demand-4.ensures in
    let loaded = sym c.parts_loaded.ensures ∙ c.in_ok-demand-5.ensures in
    let bound = sym c.bounds_rise.ensures ∙ c.in_ok-demand-6.ensures in
    let shallow = sym (ap (λ (n : ℕ). ltb n 8) c.deepest-depth.ensures) ∙ c.in_ok-demand-7.ensures in
    let all : passes (given_checks earlier s) ≡ true =
    and_from _ _ counts (and_from _ _ finite (and_from _ _ rise (and_from _ _ agree (and_from _ _ loaded (and_from _ _ bound (and_from _ _ shallow refl)))))) in
    let numbers : 2 * length s.domain.now + 2 * length s.range.now + c.own_entries.result ≡ (given_needs earlier s).numbers = omega (arith, given_length earlier s) in
    let depth : c.deepest-depth.result + 1 ≡ suc (deepest earlier s.parts.now) = omega arith in
    judged_passes (given_checks earlier s) _ _ all (λ j. record { numbers = numbers j; depth = depth j })

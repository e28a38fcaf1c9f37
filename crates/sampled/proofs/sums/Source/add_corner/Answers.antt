use Rattle.std.proofs.Common.{◌≡◌, ◌+◌, Some, None, Err, sym, ap, ◌∙◌, arith}
use Rattle.std.specs.Option.{ok_or}
use Rattle.std.specs.Result.{result_ok}
use Rattle.std.proofs.lemmas.Result.{err_from_is_err_and}
use Rattle.sampled.proofs.Adding.{added_none, added_more, added_fails, added_all, summed_err}
use Rattle.sampled.proofs.sums.Source.add_corner.Goals as goal

pub loop-i-init : goal.loop-i-init
loop-i-init g c = added_none (g.S.Samples.tables c.args.self.now.samples.now) c.args.self.now.table c.args.corner.weight c.args.corner.offset c.args.sums.now

pub loop-i-preserved : goal.loop-i-preserved
loop-i-preserved g c =
    let tables = g.S.Samples.tables c.args.self.now.samples.now in
    let found : Some c.in_ok-sample.sample ≡ c.sample.result = sym (c.ok_or.ensures.ok_part ∙ ap result_ok c.in_ok-sample.was) in
    added_more tables c.args.self.now.table c.args.corner.weight c.args.corner.offset c.args.sums.now c.loop-i.sums c.loop-i.i c.in_ok-sample.sample c.nearest.result (omega arith) (found ∙ c.sample.ensures) c.nearest.ensures c.loop-i.invariant

pub returns : goal.returns
returns g c =
    added_all (g.S.Samples.tables c.args.self.now.samples.now) c.args.self.now.table c.args.corner.weight c.args.corner.offset c.args.sums.now c.loop-i.sums c.loop-i.i (omega arith) c.loop-i.invariant

pub returns-in_err-sample : goal.returns-in_err-sample
returns-in_err-sample g c =
    let tables = g.S.Samples.tables c.args.self.now.samples.now in
    let gone : c.sample.result ≡ None = c.ok_or.ensures.ok_part ∙ ap result_ok c.in_err-sample.was in
    let fails = added_fails tables c.args.self.now.table c.args.corner.weight c.args.corner.offset c.args.sums.now c.loop-i.sums c.loop-i.i (omega arith) (sym gone ∙ c.sample.ensures) c.loop-i.invariant in
    let e = err_from_is_err_and c.from_residual.result c.from_residual.ensures.1 in
    let same : Err c.missing.result ≡ Err c.in_err-sample.field-0.0 = ap (λ o. ok_or o c.missing.result) (sym gone) ∙ sym c.ok_or.ensures.value ∙ c.in_err-sample.was in
    let told : c.missing.result ≡ c.in_err-sample.field-0.0 = cc in
    summed_err c.args.self.now.index (c.args.corner.offset + c.loop-i.i) _ _ _ c.from_residual.result e.1 (e.2 ∙ sym told ∙ c.missing.ensures) fails

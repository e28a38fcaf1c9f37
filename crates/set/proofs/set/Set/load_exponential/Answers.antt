use Rattle.std.proofs.Common.{◌≡◌, Some, Err, ap, ◌∙◌}
use Rattle.std.proofs.lemmas.Result.{err_from_is_err_and}
use Rattle.fault.specs.Checks.{first_fault}
use Rattle.fault.specs.declared.cause.Fault.{Fault}
use Rattle.function.specs.Exponential.{exponential_of, given_checks}
use Rattle.function.proofs.Judging.{judged_err}
use Rattle.set.specs.State.{model_of}
use Rattle.set.proofs.Loading.{refused, load_step-refused}
use Rattle.set.proofs.Reading.{length-functions_of}
use Rattle.set.proofs.set.Set.load_exponential.Goals as goal

pub returns-in_err-numbers : goal.returns-in_err-numbers
returns-in_err-numbers c =
    let s = c.args.self.now in
    let given = c.args.given.now in
    let e = c.in_err-numbers.field-0.0 in
    let p = err_from_is_err_and c.from_residual.result c.from_residual.ensures.1 in
    let failed : first_fault (given_checks c.len.result given) ≡ Some e = judged_err _ e _ c.in_err-numbers.ensures in
    refused s (exponential_of given) _ e (load_step-refused (model_of s) (exponential_of given) e (rw (length-functions_of s, ← c.len.ensures) failed)) (p.1 ∙ ap (λ (d : Fault). Err d) p.2)

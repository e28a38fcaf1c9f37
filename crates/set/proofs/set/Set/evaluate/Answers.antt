use Rattle.std.proofs.Common.{◌≡◌, Result, sym, ap, ◌∙◌}
use Rattle.fault.specs.declared.cause.Fault.{Fault}
use Rattle.function.specs.Answer.{Answer}
use Rattle.function.specs.Evaluate.{run}
use Rattle.function.specs.Exponential.{stored}
use Rattle.function.specs.Function.{Function}
use Rattle.function.specs.Outputs.{over}
use Rattle.function.proofs.Writing.{over_fits}
use Rattle.set.specs.Steps.{at, written}
use Rattle.set.proofs.Calling.{answered, roomy}
use Rattle.set.proofs.Reading.{functions_of, function_is, placed_is}
use Rattle.set.proofs.set.Set.evaluate.Goals as goal

pub type2-requires : goal.type2-requires
type2-requires g c = placed_is c.args.self.now c.args.index _ c.in_ok-record.ensures.0

pub returns-clause-wrote : goal.returns-clause-wrote
returns-clause-wrote g c =
    let s = c.args.self.now in
    let i = c.args.index in
    let e = c.in_ok-record.ensures in
    let μ = g.A.Arithmetic.meaning c.args.unit.now in
    let xs = c.args.inputs.now in
    let ys = c.args.outputs.now in
    let same : stored c.type2.result ≡ at (functions_of s) i = c.type2.ensures ∙ sym (function_is s i c.in_ok-record.record e.0) in
    c.eval.ensures.wrote
    ∙ ap (λ (f : Function). over (run μ f xs).outputs ys) same
    ∙ over_fits (run μ (at (functions_of s) i) xs).outputs ys (roomy s i μ xs ys e.1)
    ∙ sym (ap (λ (a : Result Answer Fault). written a ys) (answered s i μ xs ys e.1))

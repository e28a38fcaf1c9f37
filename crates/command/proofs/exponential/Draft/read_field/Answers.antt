use Rattle.std.proofs.Common.{ap}
use Rattle.std.proofs.lemmas.Result.{on_ok_weaker}
use Rattle.command.specs.Loads.{domain_field, range_field, c0_field, c1_field, n_field}
use Rattle.command.proofs.exponential.Draft.read_field.Goals as goal

pub returns-in_ok-pairs-in-domain : goal.returns-in_ok-pairs-in-domain
returns-in_ok-pairs-in-domain c =
    on_ok_weaker c.put.result (λ h. domain_field _ c.in-domain.is h.0 (ap (λ o. record c.args.self.now { domain = o }) h.1) c.in_ok-pairs-in-domain.ensures) c.put.ensures

pub returns-in_ok-pairs-in-range : goal.returns-in_ok-pairs-in-range
returns-in_ok-pairs-in-range c =
    on_ok_weaker c.put-in-range.result (λ h. range_field _ c.in-range.is h.0 (ap (λ o. record c.args.self.now { range = o }) h.1) c.in_ok-pairs-in-range.ensures) c.put-in-range.ensures

pub returns-in_ok-floats-in-c0 : goal.returns-in_ok-floats-in-c0
returns-in_ok-floats-in-c0 c =
    on_ok_weaker c.put-in-c0.result (λ h. c0_field _ c.in-c0.is h.0 (ap (λ o. record c.args.self.now { c0 = o }) h.1) c.in_ok-floats-in-c0.ensures) c.put-in-c0.ensures

pub returns-in_ok-floats-in-c1 : goal.returns-in_ok-floats-in-c1
returns-in_ok-floats-in-c1 c =
    on_ok_weaker c.put-in-c1.result (λ h. c1_field _ c.in-c1.is h.0 (ap (λ o. record c.args.self.now { c1 = o }) h.1) c.in_ok-floats-in-c1.ensures) c.put-in-c1.ensures

pub returns-in_ok-one_float-in-n : goal.returns-in_ok-one_float-in-n
returns-in_ok-one_float-in-n c =
    on_ok_weaker c.put-in-n.result (λ h. n_field _ c.in-n.is h.0 (ap (λ o. record c.args.self.now { n = o }) h.1) c.in_ok-one_float-in-n.ensures) c.put-in-n.ensures

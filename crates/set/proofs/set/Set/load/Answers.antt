use Rattle.std.proofs.Common.{arith, Err, sym, refl, ap, ◌∙◌}
use Rattle.std.proofs.lemmas.Grind.{common_steps}
use Rattle.std.proofs.lemmas.Result.{err_from_is_err_and}
use Rattle.fault.specs.Checks.{fault}
use Rattle.fault.specs.declared.cause.Cause.TheVariants.{Room}
use Rattle.fault.specs.declared.cause.Fault.{Fault}
use Rattle.set.specs.State.{model_of}
use Rattle.set.proofs.Filling.{whole-appended, whole-appended_one}
use Rattle.set.proofs.Growing.{grown_model}
use Rattle.set.proofs.Loading.{refused, granted, load_step-full, load_step-granted, still}
use Rattle.set.proofs.Reading.{length-functions_of}
use Rattle.set.proofs.set.Set.load.Goals as goal

pub returns-in_err-demand : goal.returns-in_err-demand
returns-in_err-demand g c =
    let s = c.args.self.now in
    let f = g.G.Lay.function c.args.given.now in
    let e = c.in_err-demand.ensures in
    let p = err_from_is_err_and c.from_residual.result c.from_residual.ensures.1 in
    let full = load_step-full (model_of s) f c.requires.checked _ _ c.requires.needed c.free.ensures (sym c.fit_in.ensures ∙ e.0) in
    refused s f _ _ full (p.1 ∙ ap (λ (d : Fault). Err d) (p.2 ∙ e.1 ∙ c.new.ensures ∙ ap (fault Room) (c.len-index.ensures ∙ sym (length-functions_of s))))

pub invariant_of-self : goal.invariant_of-self
invariant_of-self g c =
    let s = c.args.self.now in
    let f = g.G.Lay.function c.args.given.now in
    let e = c.lay-record.ensures in
    let fine = granted (model_of s) f c.requires.checked _ _ c.requires.needed c.free.ensures (sym c.fit_in.ensures ∙ c.in_ok-demand.ensures) in
    let p = still s f fine _ _ s.instructions _ e.record c.push.ensures e.numbers refl in
    record { inside = p.2; lawful = p.3 }

pub returns-clause-after : goal.returns-clause-after
returns-clause-after g c =
    let s = c.args.self.now in
    let f = g.G.Lay.function c.args.given.now in
    let e = c.lay-record.ensures in
    let granted = load_step-granted (model_of s) f c.requires.checked _ _ c.requires.needed c.free.ensures (sym c.fit_in.ensures ∙ c.in_ok-demand.ensures) in
    rw (c.push.ensures, e.numbers, e.record) (grown_model s.records s.numbers s.instructions f s.inside ∙ sym (ap (λ d. d.after) granted))

pub returns-clause-lists : goal.returns-clause-lists
returns-clause-lists g c =
    let s = c.args.self.now in
    let e = c.lay-record.ensures in
    record {
      records = rw (c.push.ensures, e.record) (whole-appended_one s.records _ (grind (arith, common_steps)));
      numbers = rw e.numbers (whole-appended s.numbers _);
      instructions = refl;
    }

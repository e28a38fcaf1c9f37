use Rattle.std.proofs.Common.{Some, sym, ap, ◌∙◌}
use Rattle.std.proofs.lemmas.Result.{err_from_is_err_and}
use Rattle.fault.specs.declared.cause.Fault.{Fault}
use Rattle.set.proofs.Calling.{other_inputs, short_list, all_fit}
use Rattle.set.proofs.Reading.{rising, placed_is}
use Rattle.set.proofs.set.Set.fitting.Goals as goal

pub overflow_sub-record : goal.overflow_sub-record
overflow_sub-record c = (rising _ _ (placed_is c.args.self.now c.args.index _ c.in_ok-record.ensures.ok)).domain

pub returns-in_err-demand : goal.returns-in_err-demand
returns-in_err-demand c =
    let p = err_from_is_err_and c.from_residual-in_err-demand.result c.from_residual-in_err-demand.ensures.1 in
    let e = c.in_err-demand.ensures in
    rw (p.1, p.2) (other_inputs c.args.self.now c.args.index c.args.inputs c.args.room _ c.in_ok-record.ensures.ok e.0 ∙ ap (λ (f : Fault). Some f) (sym (e.1 ∙ c.new.ensures)))

pub returns-in_err-demand-2 : goal.returns-in_err-demand-2
returns-in_err-demand-2 c =
    let p = err_from_is_err_and c.from_residual-in_err-demand-2.result c.from_residual-in_err-demand-2.ensures.1 in
    let e = c.in_err-demand-2.ensures in
    rw (p.1, p.2) (short_list c.args.self.now c.args.index c.args.inputs c.args.room _ c.in_ok-record.ensures.ok c.in_ok-demand.ensures e.0 ∙ ap (λ (f : Fault). Some f) (sym (e.1 ∙ c.new-2.ensures)))

pub returns : goal.returns
returns c = (c.in_ok-record.ensures.ok, all_fit c.args.self.now c.args.index c.args.inputs c.args.room _ c.in_ok-record.ensures.ok c.in_ok-demand.ensures c.in_ok-demand-2.ensures)

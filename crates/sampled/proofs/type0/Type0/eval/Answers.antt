use Rattle.std.proofs.Common.{ℕ, ◌+◌, List, length, take, Some, Ok, sym, ap, rules, ◌∙◌}
use lib.Ieee.{Float}
use Rattle.numeric.specs.Interval.{clamp_all}
use Rattle.numeric.specs.Lists.{pairs_of}
use Rattle.function.specs.Outputs.{over}
use Rattle.sampled.specs.Grid.{sizes_of, GridOf}
use Rattle.sampled.specs.Sampled.{add_corners, decoded, OwnSizes}
use Rattle.sampled.proofs.Evaluating.{refilled, summed}
use Rattle.sampled.proofs.type0.Type0.eval.Goals as goal

pub returns : goal.returns
returns g c =
    let t = c.args.self.now in
    let old = c.args.outputs.now in
    let tables = g.S.Samples.tables c.args.samples.now in
    let n = c.in_ok-grid.grid.outputs in
    let cs = c.corners-corners.result.list.items in
    let sums = c.add_corners.new.sums in
    let summed-up = ap (add_corners tables t.table cs) (sym (c.deref_mut.ensures.value ∙ c.zeros-sums.ensures)) ∙ c.in_ok-add_corners.ensures in
    let kept = refilled c.zeros-sums.result.items sums (c.add_corners.auto.sums ∙ ap length c.deref_mut.ensures.value) in
    let mid = c.put_decoded.new.outputs in
    let own : OwnSizes t (length c.args.inputs.now) (Some (sizes_of c.in_ok-grid.grid.dimensions.items)) = search rules in
    let parts : GridOf t c.in_ok-grid.grid.dimensions.items n = search rules in
    let done = summed tables c.args.index t c.args.inputs.now c.in_ok-grid.grid.dimensions.items n own.0 parts cs sums mid c.clamp_front.new.outputs old c.largest.result c.corners-corners.ensures
    summed-up c.largest.ensures
    (c.put_decoded.ensures ∙ ap (λ (ys : List Float). over (decoded c.largest.result (pairs_of t.decode.now) ys) old) (c.deref.ensures.0 ∙ kept))
    (c.clamp_front.ensures ∙ ap (λ (k : ℕ). over (clamp_all (pairs_of t.range.now) (take k mid)) mid) (c.len.ensures.value ∙ ap length kept)) in
    record {
      reply =
          ap (λ (k : ℕ). Ok (record { outputs = k; steps = 1 + c.len-3.result; drops = 0 })) (c.len-2.ensures.value ∙ ap length kept)
          ∙ ap (λ (k : ℕ). Ok (record { outputs = length sums; steps = 1 + k; drops = 0 })) c.len-3.ensures.value
          ∙ done.0;
      wrote = done.1;
    }

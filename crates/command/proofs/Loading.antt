-- The fields of a load line, read one by one. Assumes nothing.
use Rattle.std.proofs.Common.{ℕ, List, IfOk, Some, None, Result}
use Rattle.std.proofs.lemmas.Result.{IfOk-weaker}
use Rattle.command.specs.declared.exponential.Draft.{Draft}
use Rattle.command.specs.declared.exponential.ExponentialLine.{ExponentialLine}
use Rattle.command.specs.Cutting.{AtField}
use Rattle.command.specs.Loads.{Fields, no_more, one_more, Filled, Finished, Loads, blank_draft}

-- from the start to s the fields took the draft to d
pub record Goes (start s : List ℕ) (d : Draft) : Type 0 where
  pub on : (e : Draft) (t : List ℕ) → Fields d e s t → Fields blank_draft e start t

pub goes_more : {start s u v name : List ℕ} {d e : Draft} → Goes start s d → AtField s (Some name) u → Filled name d e u v → Goes start v e
goes_more g at f = record { on = λ e t h. g.on e t (one_more at f h) }

pub goes_end : {E : Type 0} {start s t : List ℕ} {d : Draft} (r : Result ExponentialLine E) → Goes start s d → AtField s None t → IfOk r (Finished d) → IfOk r (λ l. Loads l start t)
goes_end r g at h = IfOk-weaker r _ _ (λ l f. (_, g.on _ _ (no_more at), f)) h

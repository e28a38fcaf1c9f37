-- What the load line of an exponential function says. In each, s is the text before and t what is left of it. Assumes nothing.
use Rattle.std.specs.Prelude.{◌≡◌, ℕ, List, [], Some, None, vec_items, codes, Option, Vec, Float}
use Rattle.std.specs.declared.alloc.Global.{Global}
use Rattle.command.specs.declared.exponential.Draft.{Draft}
use Rattle.command.specs.declared.exponential.ExponentialLine.{ExponentialLine}
use Rattle.command.specs.Cutting.{AtField}
use Rattle.command.specs.Fields.{Numbers, Pairs, Alone}

-- the field of that name, which was not there before, takes the draft from d to e
pub data Filled (name : List ℕ) (d e : Draft) (s t : List ℕ) : Type 0 where
  domain_field : (v : Vec (Float × Float) Global) → name ≡ codes "domain" → d.domain ≡ None → e ≡ record d { domain = Some v } → Pairs s (vec_items v) t → Filled name d e s t
  range_field : (v : Vec (Float × Float) Global) → name ≡ codes "range" → d.range ≡ None → e ≡ record d { range = Some v } → Pairs s (vec_items v) t → Filled name d e s t
  c0_field : (v : Vec Float Global) → name ≡ codes "c0" → d.c0 ≡ None → e ≡ record d { c0 = Some v } → Numbers s (vec_items v) t → Filled name d e s t
  c1_field : (v : Vec Float Global) → name ≡ codes "c1" → d.c1 ≡ None → e ≡ record d { c1 = Some v } → Numbers s (vec_items v) t → Filled name d e s t
  n_field : (x : Float) → name ≡ codes "n" → d.n ≡ None → e ≡ record d { n = Some x } → Alone s x t → Filled name d e s t

-- the fields up to the line's end take it from d to e
pub data Fields : Draft → Draft → List ℕ → List ℕ → Type 0 where
  no_more : {d : Draft} {s t : List ℕ} → AtField s None t → Fields d d s t
  one_more : {d e f : Draft} {s u v t name : List ℕ} → AtField s (Some name) u → Filled name d e u v → Fields e f v t → Fields d f s t

abbrev pub blank_draft : Draft
blank_draft = record { domain = None; range = None; c0 = None; c1 = None; n = None }

abbrev pub pairs_of : Option (Vec (Float × Float) Global) → List (Float × Float)
pairs_of None = []
pairs_of (Some v) = vec_items v

-- l is what the draft comes to
pub record Finished (d : Draft) (l : ExponentialLine) : Type 0 where
  pub domain : vec_items l.domain ≡ pairs_of d.domain
  pub range : vec_items l.range ≡ pairs_of d.range
  pub c0 : l.c0 ≡ d.c0
  pub c1 : l.c1 ≡ d.c1
  pub n : d.n ≡ Some l.n

abbrev pub Loads : ExponentialLine → List ℕ → List ℕ → Type 0
Loads l s t = (d : Draft) × Fields blank_draft d s t × Finished d l

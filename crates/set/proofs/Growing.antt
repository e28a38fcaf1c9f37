-- What the lists stand for once one more function is laid behind the others. Assumes nothing.
use Rattle.std.proofs.Common.{◌≡◌, ℕ, ◌+◌, ◌-◌, ◌≤◌, true, ◌&&◌, List, [], ◌∷◌, ◌++◌, length, get_or, sym, refl, ap, ◌∙◌, append_assoc, length-append, length-drop, arith}
use lib.Ieee.{Float, nan}
use Rattle.std.specs.List.{list_all}
use Rattle.std.proofs.lemmas.List.{map_push, get_or_append_left, get_or_at}
use Rattle.std.proofs.lemmas.List.Folds.{list_all-append}
use Rattle.std.proofs.lemmas.Bool.{and_parts, and_from}
use Rattle.std.proofs.lemmas.Bool.Decides.{nat_tests}
use Rattle.numeric.specs.Lists.{flat, pairs_of}
use Rattle.numeric.proofs.Flat.{pairs_flat}
use Rattle.function.specs.Function.{Function, Body, exponential}
use Rattle.function.specs.Numbers.{body_numbers, numbers_of}
use Rattle.function.specs.declared.record.Kind.{Kind}
use Rattle.function.specs.declared.record.Kind.TheVariants.{Exponential}
use Rattle.function.specs.declared.record.Record.{Record}
use Rattle.function.specs.declared.record.Instruction.{Instruction}
use Rattle.set.specs.Fill.{Fill, appended}
use Rattle.set.specs.Model.{Model, entries}
use Rattle.set.specs.Steps.{loaded}
use Rattle.set.specs.View.{body_at, function_at, functions_in, kind_of, record_of, kind_placed, placed}
use Rattle.set.proofs.Ranges.{slice_range-append, slice_range_mid}
use Rattle.set.proofs.Reading.{rising, exponential_rising}

-- ---- the functions that were there

body_stays : (xs ys : List Float) (r : Record) (k : Kind) → r.kind ≡ k → placed (length xs) r ≡ true → body_at (xs ++ ys) r.own k ≡ body_at xs r.own k
body_stays xs ys r (Exponential c1 n) e p =
    let t = exponential_rising (length xs) r c1 n p e in
    let a = slice_range-append xs ys r.own c1 t.own (omega (arith, t.c0, t.number)) in
    let b = slice_range-append xs ys c1 n t.c0 (omega (arith, t.number)) in
    let x = get_or_append_left xs ys nan n t.number in
    λ j. exponential (a j) (b j) (x j)

function_stays : (xs ys : List Float) (r : Record) → placed (length xs) r ≡ true → function_at (xs ++ ys) r ≡ function_at xs r
function_stays xs ys r p =
    let t = rising (length xs) r p in
    let a = slice_range-append xs ys r.domain r.range t.domain (omega (arith, t.range, t.own, t.end)) in
    let b = slice_range-append xs ys r.range r.own t.range (omega (arith, t.own, t.end)) in
    let e = body_stays xs ys r r.kind refl p in
    λ j. record { domain = pairs_of (a j); range = pairs_of (b j); body = e j }

functions_stay : (xs ys : List Float) (rs : List Record) → list_all (placed (length xs)) rs ≡ true → functions_in rs (xs ++ ys) ≡ functions_in rs xs
functions_stay xs ys [] p = refl
functions_stay xs ys (r ∷ rs) p =
    let t = and_parts (placed (length xs) r) (list_all (placed (length xs)) rs) p in
    let a = function_stays xs ys r t.0 in
    let b = functions_stay xs ys rs t.1 in
    λ j. a j ∷ b j

-- ---- the new one

fresh_body : (front : List Float) (own : ℕ) (b : Body) → own ≡ length front → body_at (front ++ body_numbers b) own (kind_of own b) ≡ b
fresh_body front own (exponential c0 c1 n) l =
    let xs = front ++ (c0 ++ (c1 ++ (n ∷ []))) in
    let k0 = length-append front c0 in
    let k1 = length-append (front ++ c0) c1 in
    let first = slice_range_mid xs front c0 (c1 ++ (n ∷ [])) own (own + length c0) refl l refl in
    let second = slice_range_mid xs (front ++ c0) c1 (n ∷ []) (own + length c0) (own + length c0 + length c1) (simp append_assoc) (omega arith) refl in
    let regroup : xs ≡ ((front ++ c0) ++ c1) ++ (n ∷ []) = simp append_assoc in
    let third = ap (λ (zs : List Float). get_or zs (own + length c0 + length c1) nan) regroup ∙ get_or_at ((front ++ c0) ++ c1) n [] nan (own + length c0 + length c1) (omega arith) in
    λ j. exponential (first j) (second j) (third j)

-- a function's record and numbers stand for the function
fresh : (xs : List Float) (f : Function) → function_at (xs ++ numbers_of f) (record_of (length xs) f) ≡ f
fresh xs f =
    let all = xs ++ numbers_of f in
    let d = flat f.domain in
    let r = flat f.range in
    let b = body_numbers f.body in
    let k0 = length-append xs d in
    let k1 = length-append (xs ++ d) r in
    let range = length xs + length d in
    let own = range + length r in
    let domains = slice_range_mid all xs d (r ++ b) (length xs) range refl refl refl in
    let ranges = slice_range_mid all (xs ++ d) r b range own (simp append_assoc) (omega arith) refl in
    let regroup : all ≡ ((xs ++ d) ++ r) ++ b = simp append_assoc in
    let body = ap (λ (zs : List Float). body_at zs own (kind_of own f.body)) regroup ∙ fresh_body ((xs ++ d) ++ r) own f.body (omega arith) in
    let ds = ap pairs_of domains ∙ pairs_flat f.domain in
    let rs = ap pairs_of ranges ∙ pairs_flat f.range in
    λ j. record { domain = ds j; range = rs j; body = body j }

-- ---- the records stay in order

pub record_end : (xs : List Float) (f : Function) → (record_of (length xs) f).end ≡ length (xs ++ numbers_of f)
record_end xs f =
    let a = length-append (flat f.domain) (flat f.range ++ body_numbers f.body) in
    let b = length-append (flat f.range) (body_numbers f.body) in
    let e = length-append xs (numbers_of f) in
    omega arith

placed_kind : (b : Body) (r : Record) → r.end ≡ r.own + length (body_numbers b) → kind_placed r (kind_of r.own b) ≡ true
placed_kind (exponential c0 c1 n) r e =
    let a = length-append c0 (c1 ++ (n ∷ [])) in
    let b = length-append c1 (n ∷ []) in
    grind (arith, nat_tests)

record_placed : (at : ℕ) (f : Function) → placed (record_of at f).end (record_of at f) ≡ true
record_placed at f = let p = placed_kind f.body (record_of at f) refl in grind (arith, nat_tests)

-- what lies within u lies within more
placed_more : (u u' : ℕ) (r : Record) → u ≤ u' → placed u r ≡ true → placed u' r ≡ true
placed_more u u' r h p = let t = rising u r p in grind (arith, nat_tests, t.domain, t.range, t.own, t.end, t.kind)

all_placed : (u u' : ℕ) (rs : List Record) → u ≤ u' → list_all (placed u) rs ≡ true → list_all (placed u') rs ≡ true
all_placed u u' [] h p = refl
all_placed u u' (r ∷ rs) h p =
    let t = and_parts (placed u r) (list_all (placed u) rs) p in
    and_from (placed u' r) (list_all (placed u') rs) (placed_more u u' r h t.0) (all_placed u u' rs h t.1)

-- ---- both, in the lists of a set

module _ (rs : List Record) (ns : List Float) (f : Function) (here : list_all (placed (length ns)) rs ≡ true) where
  pub placed_grown : list_all (placed (length (ns ++ numbers_of f))) (rs ++ (record_of (length ns) f ∷ [])) ≡ true
  placed_grown =
      let u = length (ns ++ numbers_of f) in
      let r = record_of (length ns) f in
      let e = length-append ns (numbers_of f) in
      let new : placed u r ≡ true = rw (sym (record_end ns f)) (record_placed (length ns) f) in
      list_all-append (placed u) rs (r ∷ [])
      ∙ and_from (list_all (placed u) rs) (placed u r && true) (all_placed (length ns) u rs (omega arith) here) (and_from (placed u r) true new refl)

  pub functions_grown : functions_in (rs ++ (record_of (length ns) f ∷ [])) (ns ++ numbers_of f) ≡ functions_in rs ns ++ (f ∷ [])
  functions_grown =
      let stay = functions_stay ns (numbers_of f) rs here in
      let new = fresh ns f in
      map_push (function_at (ns ++ numbers_of f)) rs (record_of (length ns) f) ∙ (λ j. stay j ++ (new j ∷ []))

-- the model of a set of these lists
abbrev model_in : Fill Record → Fill Float → Fill Instruction → Model
model_in rs ns is = record { functions = functions_in rs.front ns.front; free = entries (length rs.rest) (length ns.rest) (length is.rest) }

pub grown_model : (rs : Fill Record) (ns : Fill Float) (is : Fill Instruction) (f : Function) → list_all (placed (length ns.front)) rs.front ≡ true
    → model_in (appended rs (record_of (length ns.front) f ∷ [])) (appended ns (numbers_of f)) is ≡ loaded (model_in rs ns is) f
grown_model rs ns is f here =
    let functions = functions_grown rs.front ns.front f here in
    let a = length-drop 1 rs.rest in
    let b = length-drop (length (numbers_of f)) ns.rest in
    let same : length is.rest ≡ length is.rest - 0 = omega arith in
    λ j. record { functions = functions j; free = entries (a j) (b j) (same j) }

-- What a set's invariant says of a loaded function. Assumes nothing.
use Rattle.std.proofs.Common.{◌≡◌, ℕ, zero, suc, ◌-◌, ◌/◌, ◌<◌, ◌≤◌, true, List, [], ◌∷◌, ◌++◌, length, take, Some, option_map, slice_get, slice_range, sym, refl, ap, ◌∙◌, subst, append_assoc, append-nil, arith}
use Rattle.std.proofs.lemmas.List.{length-map}
use Rattle.std.proofs.lemmas.Bool.{and_parts, and_from}
use Rattle.std.proofs.lemmas.Bool.Decides.{nat_tests}
use Rattle.std.proofs.lemmas.Option.{slice_get-map, slice_get_within, get_or_from_slice_get}
use Rattle.fault.specs.Checks.{passes}
use Rattle.numeric.proofs.Every.{every_at}
use Rattle.numeric.proofs.Flat.{pairs_count}
use Rattle.function.specs.Function.{Function}
use Rattle.function.specs.declared.record.Kind.TheVariants.{Exponential}
use Rattle.function.specs.declared.record.Record.{Record}
use Rattle.set.specs.State.{model_of}
use Rattle.set.specs.Steps.{at, nothing, admitted, function_checks}
use Rattle.set.specs.View.{function_at, placed, kind_placed}
use Rattle.set.specs.declared.set.Set.{Set}
use Rattle.set.proofs.Ranges.{length-slice_range}

abbrev pub functions_of : Set → List Function
functions_of s = (model_of s).functions

-- the places of a record rise
pub record Rising (r : Record) (used : ℕ) : Type 0 where
  pub domain : r.domain ≤ r.range
  pub range : r.range ≤ r.own
  pub own : r.own ≤ r.end
  pub end : r.end ≤ used
  pub kind : kind_placed r r.kind ≡ true

pub rising : (used : ℕ) (r : Record) → placed used r ≡ true → Rising r used
rising used r p = record {
  domain = grind (arith, nat_tests);
  range = grind (arith, nat_tests);
  own = grind (arith, nat_tests);
  end = grind (arith, nat_tests);
  kind = grind (arith, nat_tests);
}

-- those of an exponential function, within u
pub record ExponentialRising (u : ℕ) (r : Record) (c1 n : ℕ) : Type 0 where
  pub domain : r.domain ≤ r.range
  pub range : r.range ≤ r.own
  pub own : r.own ≤ c1
  pub c0 : c1 ≤ n
  pub number : n < u

pub exponential_rising : (u : ℕ) (r : Record) (c1 n : ℕ) → placed u r ≡ true → r.kind ≡ Exponential c1 n → ExponentialRising u r c1 n
exponential_rising u r c1 n p e =
    let t = rising u r p in
    let k : kind_placed r (Exponential c1 n) ≡ true = ap (kind_placed r) (sym e) ∙ t.kind in
    record { domain = t.domain; range = t.range; own = grind (arith, nat_tests); c0 = grind (arith, nat_tests); number = grind (arith, nat_tests) }

pub length-functions_of : (s : Set) → length (functions_of s) ≡ length s.records.front
length-functions_of s = length-map _ _

-- the record r is that of the function i
module _ (s : Set) (i : ℕ) (r : Record) (found : slice_get s.records.front i ≡ Some r) where
  pub within : i < length (functions_of s)
  within = rw (length-functions_of s) (slice_get_within s.records.front i r found)

  pub function_is : at (functions_of s) i ≡ function_at s.numbers.front r
  function_is =
      get_or_from_slice_get (functions_of s) i (function_at s.numbers.front r) nothing
      (slice_get-map (function_at s.numbers.front) s.records.front i ∙ ap (option_map (function_at s.numbers.front)) found)

  pub placed_is : placed (length s.numbers.front) r ≡ true
  placed_is =
      let all = every_at (placed (length s.numbers.front)) s.records.front i r s.inside (slice_get_within s.records.front i r found) in
      rw (← get_or_from_slice_get s.records.front i r r found) all

  pub inputs_is : length (at (functions_of s) i).domain ≡ (r.range - r.domain) / 2
  inputs_is =
      let t = rising (length s.numbers.front) r placed_is in
      ap (λ (f : Function). length f.domain) function_is
      ∙ pairs_count (slice_range s.numbers.front r.domain r.range)
      ∙ ap (λ (n : ℕ). n / 2) (length-slice_range s.numbers.front r.domain r.range (omega (arith, t.range, t.own, t.end)))

-- a loaded function passes the checks behind those before it
pub admitted_at : (earlier fs : List Function) (i : ℕ) → admitted earlier fs ≡ true → i < length fs → passes (function_checks (earlier ++ take i fs) (at fs i)) ≡ true
admitted_at earlier [] i p h = absurd (omega arith)
admitted_at earlier (f ∷ fs) zero p h = rw append-nil (and_parts (passes (function_checks earlier f)) (admitted (earlier ++ (f ∷ [])) fs) p).0
admitted_at earlier (f ∷ fs) (suc i) p h =
    subst (λ (es : List Function). passes (function_checks es (at fs i)) ≡ true) (append_assoc earlier (f ∷ []) (take i fs))
    (admitted_at (earlier ++ (f ∷ [])) fs i (and_parts (passes (function_checks earlier f)) (admitted (earlier ++ (f ∷ [])) fs) p).1 (omega arith))

-- one more function that passes
pub admitted_more : (earlier fs : List Function) (f : Function) → admitted earlier fs ≡ true → passes (function_checks (earlier ++ fs) f) ≡ true → admitted earlier (fs ++ (f ∷ [])) ≡ true
admitted_more earlier [] f p q = and_from (passes (function_checks earlier f)) true (rw append-nil at q) refl
admitted_more earlier (g ∷ fs) f p q =
    let t = and_parts (passes (function_checks earlier g)) (admitted (earlier ++ (g ∷ [])) fs) p in
    and_from (passes (function_checks earlier g)) (admitted (earlier ++ (g ∷ [])) (fs ++ (f ∷ []))) t.0
    (admitted_more (earlier ++ (g ∷ [])) fs f t.1 (subst (λ (es : List Function). passes (function_checks es f) ≡ true) (sym (append_assoc earlier (g ∷ []) fs)) q))

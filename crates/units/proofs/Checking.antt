-- The checks of a directory: a loop over its tables, and what holds of each where all pass. Assumes nothing.
use Rattle.std.proofs.Common.{◌≡◌, ℕ, zero, suc, ◌+◌, ◌<◌, ◌≤◌, Bool, true, false, not, cond, leb, if◌then◌else◌, List, [], ◌∷◌, ◌++◌, length, get_or, drop, Some, None, Option, Ok, Err, Result, IfOk, sym, refl, ap, ◌∙◌, subst, add-one, arith}
use Rattle.std.proofs.lemmas.List.{at_drop_more, at_drop_all}
use Rattle.std.proofs.lemmas.Bool.{cond-true, cond-false, le-leb, leb-true, and_parts}
use Rattle.std.proofs.lemmas.Iterator.Adapters.{position_from-zero}
use Rattle.std.specs.List.{slice_get, position, position_from}
use Rattle.std.specs.Option.{option_map}
use Rattle.std.specs.Result.{result_err, result_unwrap_or}
use Rattle.fault.proofs.Passing.{none_passes, passes_none, passes_append, fault_append, passes_front, passes_back}
use Rattle.fault.specs.Checks.{Check, first_fault, passes, fault}
use Rattle.fault.specs.declared.cause.Cause.TheVariants.{UnitShape, UnitStretch}
use Rattle.fault.specs.declared.cause.Fault.{Fault}
use Rattle.units.specs.Directory.{for_each, is_width, width_checks, fit_checks, directory_checks}
use Rattle.units.specs.Samples.{Table, most_tables}
use Rattle.units.specs.declared.directory.Stretch.{Stretch}

module _ {A : Type 0} (f : ℕ → A → List Check) where
  abbrev said : ℕ → List A → Option Fault
  said i ss = first_fault (for_each f i ss)

  -- a loop over them that has come to i: what is left decides
  abbrev pub Left : List A → ℕ → Type 0
  Left ss i = said 0 ss ≡ said i (drop i ss)

  left_one : (ss : List A) (i : ℕ) (d : A) → i < length ss → Left ss i → said 0 ss ≡ first_fault (f i (get_or ss i d) ++ for_each f (suc i) (drop (i + 1) ss))
  left_one ss i d h l = l ∙ at_drop_more (said i) ss i d h

  pub left_passes : (ss : List A) (i : ℕ) (d : A) → i < length ss → None ≡ first_fault (f i (get_or ss i d)) → Left ss i → Left ss (i + 1)
  left_passes ss i d h e l =
      let s = get_or ss i d in
      left_one ss i d h l ∙ passes_append (f i s) (for_each f (suc i) (drop (i + 1) ss)) (none_passes (f i s) (sym e)) ∙ ap (λ (k : ℕ). said k (drop (i + 1) ss)) (sym (add-one i))

  pub left_fails : (ss : List A) (i : ℕ) (d : A) (e : Fault) → i < length ss → Some e ≡ first_fault (f i (get_or ss i d)) → Left ss i → Some e ≡ said 0 ss
  left_fails ss i d e h p l = sym (left_one ss i d h l ∙ fault_append (f i (get_or ss i d)) (for_each f (suc i) (drop (i + 1) ss)) e (sym p))

  pub left_none : (ss : List A) (i : ℕ) → length ss ≤ i → Left ss i → None ≡ said 0 ss
  left_none ss i h l = sym (l ∙ at_drop_all (said i) ss i h)

  -- where all pass, so do those of each table
  pub each_passes : (k i : ℕ) (ss : List A) (s : A) → passes (for_each f k ss) ≡ true → slice_get ss i ≡ Some s → passes (f (k + i) s) ≡ true
  each_passes k i [] s p e = cc
  each_passes k zero (x ∷ ss) s p e =
      let same : x ≡ s = cc in
      let number : k + 0 ≡ k = omega arith in
      subst (λ (z : A). passes (f (k + 0) z) ≡ true) same (subst (λ (n : ℕ). passes (f n x) ≡ true) (sym number) (passes_front (f k x) (for_each f (suc k) ss) p))
  each_passes k (suc i) (x ∷ ss) s p e =
      let number : suc k + i ≡ k + suc i = omega arith in
      subst (λ (n : ℕ). passes (f n s) ≡ true) number (each_passes (suc k) i ss s (passes_back (f k x) (for_each f (suc k) ss) p) e)

-- ---- the entries of a table

module _ {A : Type 0} (fits : A → Bool) (table start : ℕ) where
  abbrev pub misfit : ℕ → Fault
  misfit i = record { cause = UnitStretch; index = table; place = start + i }

  from_entry : (k : ℕ) (es : List A) → option_map misfit (position_from (λ e. not (fits e)) k es) ≡ first_fault (for_each (fit_checks fits table start) k es)
  from_entry k [] = refl
  from_entry k (e ∷ es) = go (ap (λ (n : ℕ). option_map misfit (position_from (λ x. not (fits x)) n es)) (add-one k) ∙ from_entry (suc k) es) (fits e)
    where
      go : option_map misfit (position_from (λ x. not (fits x)) (k + 1) es) ≡ first_fault (for_each (fit_checks fits table start) (suc k) es)
          → (b : Bool) → option_map misfit (cond (not b) (Some k) (position_from (λ x. not (fits x)) (k + 1) es)) ≡ cond b (first_fault (for_each (fit_checks fits table start) (suc k) es)) (Some (misfit k))
      go rest true = rest
      go rest false = refl

  -- the first that does not fit names the fault
  pub first_entry : (es : List A) (o : Option ℕ) → o ≡ position (λ e. not (fits e)) es → option_map misfit o ≡ first_fault (for_each (fit_checks fits table start) 0 es)
  first_entry es o e = ap (option_map misfit) (e ∙ position_from-zero (λ x. not (fits x)) es) ∙ from_entry 0 es

-- where each fits, there is none
pub none_unfit : {A : Type 0} (es : List A) → None ≡ position (λ (e : A). not true) es
none_unfit es = go 0 es ∙ sym (position_from-zero (λ e. not true) es)
  where
    go : {A : Type 0} (k : ℕ) (xs : List A) → None ≡ position_from (λ (e : A). not true) k xs
    go k [] = refl
    go k (x ∷ xs) = go (k + 1) xs

-- ---- the whole directory

module _ (f : ℕ → Stretch → List Check) where
  at_most : (ss : List Stretch) → length ss ≤ most_tables → first_fault (directory_checks f ss) ≡ first_fault (for_each width_checks 0 ss ++ for_each f 0 ss)
  at_most ss h = cond-true (leb (length ss) most_tables) (first_fault (for_each width_checks 0 ss ++ for_each f 0 ss)) (Some (fault UnitShape 0)) (le-leb (length ss) most_tables h)

  pub directory_fails : (ss : List Stretch) (e : Fault) → length ss ≤ most_tables → Some e ≡ first_fault (for_each width_checks 0 ss) → Some e ≡ first_fault (directory_checks f ss)
  directory_fails ss e h p = sym (at_most ss h ∙ fault_append (for_each width_checks 0 ss) (for_each f 0 ss) e (sym p))

  pub directory_goes_on : (ss : List Stretch) (o : Option Fault) → length ss ≤ most_tables → None ≡ first_fault (for_each width_checks 0 ss) → o ≡ first_fault (for_each f 0 ss) → o ≡ first_fault (directory_checks f ss)
  directory_goes_on ss o h p e = e ∙ sym (at_most ss h ∙ passes_append (for_each width_checks 0 ss) (for_each f 0 ss) (none_passes (for_each width_checks 0 ss) (sym p)))

  -- what a directory that passes says
  pub few_tables : (ss : List Stretch) → passes (directory_checks f ss) ≡ true → length ss ≤ most_tables
  few_tables ss p = leb-true (length ss) most_tables (and_parts (leb (length ss) most_tables) (passes (for_each width_checks 0 ss ++ for_each f 0 ss)) p).0

  after_count : (ss : List Stretch) → passes (directory_checks f ss) ≡ true → passes (for_each width_checks 0 ss ++ for_each f 0 ss) ≡ true
  after_count ss p = (and_parts (leb (length ss) most_tables) (passes (for_each width_checks 0 ss ++ for_each f 0 ss)) p).1

  pub own_pass : (ss : List Stretch) (i : ℕ) (s : Stretch) → passes (directory_checks f ss) ≡ true → slice_get ss i ≡ Some s → passes (f i s) ≡ true
  own_pass ss i s p e =
      let number : 0 + i ≡ i = omega arith in
      subst (λ (n : ℕ). passes (f n s) ≡ true) number (each_passes f 0 i ss s (passes_back (for_each width_checks 0 ss) (for_each f 0 ss) (after_count ss p)) e)

  pub own_width : (ss : List Stretch) (i : ℕ) (s : Stretch) → passes (directory_checks f ss) ≡ true → slice_get ss i ≡ Some s → is_width s.width ≡ true
  own_width ss i s p e = (and_parts (is_width s.width) true (each_passes width_checks 0 i ss s (passes_front (for_each width_checks 0 ss) (for_each f 0 ss) (after_count ss p)) e)).0

-- ---- a unit, or one without tables

module _ {U : Type 0} (cs : List Check) (tables : U → List Table) (all : List Table) where
  pub all_or_none : (r : Result U Fault) (empty : U) → result_err r ≡ first_fault cs → IfOk r (λ unit. tables unit ≡ all) → tables empty ≡ []
      → tables (result_unwrap_or r empty) ≡ (if passes cs then all else [])
  all_or_none (Ok unit) empty e same none = same ∙ sym (cond-true (passes cs) all [] (none_passes cs (sym e)))
  all_or_none (Err f) empty e same none = go (passes cs) refl
    where
      go : (b : Bool) → passes cs ≡ b → tables empty ≡ (if passes cs then all else [])
      go true p = let q : None ≡ Some f = sym (passes_none cs p) ∙ sym e in cc
      go false p = none ∙ sym (cond-false (passes cs) all [] p)

-- What a sample unit reads: the tables of a directory, a stretch of a list, and widths. Assumes nothing.
use Rattle.std.proofs.Common.{◌≡◌, ℕ, ◌+◌, ◌^◌, ◌<◌, ◌≤◌, Bool, true, false, eqb, leb, List, [], ◌∷◌, length, is_some, Some, None, Option, option_map, option_and_then, unwrap_or, Ok, Err, Result, OnOk, sym, refl, ap, ◌∙◌, subst}
use Rattle.std.proofs.lemmas.List.Elements.{All-map}
use Rattle.std.proofs.lemmas.List.{length-map}
use Rattle.std.proofs.lemmas.Option.{slice_get-map}
use Rattle.std.proofs.lemmas.Bool.{eqb-true, leb-true, and_parts, cond-true, cond-false}
use Rattle.std.specs.Result.{result_err}
use Rattle.std.specs.List.{slice_get, find, All}
use Rattle.fault.proofs.Passing.{none_passes}
use Rattle.fault.specs.declared.cause.Fault.{Fault}
use Rattle.fault.specs.Checks.{Check, first_fault, passes}
use Rattle.units.proofs.Checking.{few_tables, own_pass, own_width}
use Rattle.units.specs.Directory.{is_width, width_of, entry_checks, directory_checks, unit_checks, table_of, tables_of, SamplesFit}
use Rattle.units.specs.Samples.{Table, WellFormed, bits_of, width_from, widths, width_in, on_table}
use Rattle.units.specs.declared.directory.Stretch.{Stretch}
use Rattle.units.specs.declared.samples.Width.{Width}
use Rattle.units.specs.declared.samples.Width.TheVariants.{One}

-- ---- widths

found_passes : {A : Type 0} (test : A → Bool) (xs : List A) (x : A) → find test xs ≡ Some x → test x ≡ true
found_passes test [] x e = cc
found_passes test (y ∷ ys) x e = go (λ q. found_passes test ys x q) (test y) refl
  where
    go : (find test ys ≡ Some x → test x ≡ true) → (b : Bool) → test y ≡ b → test x ≡ true
    go rest true h =
        let p : Some y ≡ Some x = sym (cond-true (test y) (Some y) (find test ys) h) ∙ e in
        let same : y ≡ x = cc in
        subst (λ z. test z ≡ true) same h
    go rest false h = rest (sym (cond-false (test y) (Some y) (find test ys) h) ∙ e)

some_is : (o : Option Width) → is_some o ≡ true → o ≡ Some (unwrap_or o One)
some_is None e = cc
some_is (Some w) e = refl

pub from_width : (bits : ℕ) → is_width bits ≡ true → width_from bits ≡ Some (width_of bits)
from_width bits e = some_is (width_from bits) e

pub width_bits : (bits : ℕ) → is_width bits ≡ true → bits_of (width_of bits) ≡ bits
width_bits bits e = eqb-true (bits_of (width_of bits)) bits (found_passes (λ w. eqb (bits_of w) bits) widths (width_of bits) (from_width bits e))

-- ---- the tables of a directory

-- the tables are well formed where the samples of each stretch have no more bits than its width
module _ {A : Type 0} (checks : ℕ → Stretch → List Check) (samples : Width → List A → List ℕ) (entries : List A) (ss : List Stretch) where
  well_formed : passes (directory_checks checks ss) ≡ true → All (SamplesFit samples entries) ss → WellFormed (tables_of samples entries ss)
  well_formed p h =
      let few = few_tables checks ss p in (
        simp length-map few,
        All-map (λ t. All (λ n. n < 2 ^ bits_of t.width) t.samples) (table_of samples entries) ss h,
      )

  pub sound_on_ok : {B : Type 0} (r : Result B Fault) → result_err r ≡ first_fault (directory_checks checks ss) → OnOk r (All (SamplesFit samples entries) ss) → OnOk r (WellFormed (tables_of samples entries ss))
  sound_on_ok (Ok x) e h = well_formed (none_passes (directory_checks checks ss) (sym e)) h
  sound_on_ok (Err f) e h = tt

-- in a directory that passes each table has the width that is given
pub width_read : {A : Type 0} (checks : ℕ → Stretch → List Check) (samples : Width → List A → List ℕ) (entries : List A) (ss : List Stretch) (i : ℕ) → passes (directory_checks checks ss) ≡ true
    → option_and_then (λ s. width_from s.width) (slice_get ss i) ≡ width_in (tables_of samples entries ss) i
width_read checks samples entries ss i p =
    go (slice_get ss i) refl ∙ sym (ap (λ (o : Option Table). on_table o (λ t. Some t.width)) (slice_get-map (table_of samples entries) ss i))
  where
    go : (o : Option Stretch) → slice_get ss i ≡ o → option_and_then (λ s. width_from s.width) o ≡ on_table (option_map (table_of samples entries) o) (λ t. Some t.width)
    go None e = refl
    go (Some s) e = from_width s.width (own_width checks ss i s p e)

-- ---- a stretch of a list

pub inside : {A : Type 0} (can_hold : Width → A → Bool) (entries : List A) (ss : List Stretch) (i : ℕ) (s : Stretch)
    → passes (unit_checks can_hold entries ss) ≡ true → Some s ≡ slice_get ss i → s.start + s.length ≤ length entries
inside can_hold entries ss i s p e = leb-true (s.start + s.length) (length entries) (and_parts (leb (s.start + s.length) (length entries)) _ (own_pass (entry_checks can_hold entries) ss i s p (sym e))).0

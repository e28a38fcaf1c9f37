-- What a loading comes to, by the outcome of its checks, and the set after one. Assumes nothing.
use Rattle.std.proofs.Common.{◌≡◌, ℕ, ◌+◌, ◌<◌, ◌≤◌, true, false, cond, ◌&&◌, [], ◌∷◌, ◌++◌, length, Some, None, Ok, Err, Result, subst, sym, refl, ap, ◌∙◌, length-append, arith}
use lib.Ieee.{Float}
use Rattle.std.specs.List.{list_all}
use Rattle.std.proofs.lemmas.Bool.{cond-true, cond-false}
use Rattle.std.proofs.lemmas.Bool.Decides.{nat_tests}
use Rattle.fault.specs.Checks.{fault, first_fault, passes}
use Rattle.fault.specs.declared.cause.Cause.TheVariants.{Room}
use Rattle.fault.specs.declared.cause.Fault.{Fault}
use Rattle.fault.proofs.Passing.{none_passes, passes_append, fault_append, passes_front, passes_back}
use Rattle.function.specs.Function.{Function}
use Rattle.function.specs.Numbers.{numbers_of}
use Rattle.function.specs.declared.record.Instruction.{Instruction}
use Rattle.function.specs.declared.record.Record.{Record}
use Rattle.set.specs.Fill.{Fill, appended, whole}
use Rattle.set.specs.Model.{Entries, Model}
use Rattle.set.specs.State.{model_of, Stored}
use Rattle.set.specs.declared.set.Set.{Set}
use Rattle.set.specs.Steps.{Done, admitted, function_checks, has_room, load_by, load_checks, load_step, loaded, needs}
use Rattle.set.specs.View.{functions_in, placed, record_of}
use Rattle.set.proofs.Filling.{length-appended}
use Rattle.set.proofs.Growing.{functions_grown, placed_grown, record_end}
use Rattle.set.proofs.Reading.{functions_of, admitted_more}

-- ---- by the checks

-- where d is what a loading comes to, all stays as it was
pub refused : (s : Set) (f : Function) (r : Result ℕ Fault) (d : Fault) → load_step f (model_of s) ≡ record { reply = Err d; after = model_of s } → r ≡ Err d
    → record { reply : r ≡ (load_step f (model_of s)).reply; after : model_of s ≡ (load_step f (model_of s)).after; lists : Stored f s s r }
refused s f r d e is = record {
  reply = is ∙ sym (ap (λ (d : Done (Result ℕ Fault)). d.reply) e);
  after = sym (ap (λ (d : Done (Result ℕ Fault)). d.after) e);
  lists = subst (Stored f s s) (sym is) (record { records = refl; numbers = refl; instructions = refl });
}

module _ (m : Model) (f : Function) where
  pub load_step-refused : (e : Fault) → first_fault (function_checks m.functions f) ≡ Some e → load_step f m ≡ record { reply = Err e; after = m }
  load_step-refused e p = ap (load_by m f) (fault_append (function_checks m.functions f) _ e p)

  -- of the entries that are free
  module _ (checked : first_fault (function_checks m.functions f) ≡ None) (needed free : Entries) (as_needed : needed ≡ needs f) (as_free : free ≡ m.free) where
    behind : first_fault (load_checks m f) ≡ cond (has_room needed free) None (Some (fault Room (length m.functions)))
    behind =
        passes_append (function_checks m.functions f) _ (none_passes (function_checks m.functions f) checked)
        ∙ (λ j. cond (has_room (sym as_needed j) (sym as_free j)) None (Some (fault Room (length m.functions))))

    pub load_step-full : has_room needed free ≡ false → load_step f m ≡ record { reply = Err (fault Room (length m.functions)); after = m }
    load_step-full h = ap (load_by m f) (behind ∙ cond-false _ _ _ h)

    pub granted : has_room needed free ≡ true → first_fault (load_checks m f) ≡ None
    granted h = behind ∙ cond-true _ _ _ h

    pub load_step-granted : has_room needed free ≡ true → load_step f m ≡ record { reply = Ok (length m.functions); after = loaded m f }
    load_step-granted h = ap (load_by m f) (granted h)

-- ---- the set after one that is granted

module _ (s : Set) (f : Function) (fine : first_fault (load_checks (model_of s) f) ≡ None) where
  passed : passes (load_checks (model_of s) f) ≡ true
  passed = none_passes (load_checks (model_of s) f) fine

  pub room : (0 < length s.records.rest) × (length (numbers_of f) ≤ length s.numbers.rest)
  room =
      let h : (has_room (needs f) (model_of s).free && true) ≡ true = passes_back (function_checks (functions_of s) f) _ passed in
      (grind (arith, nat_tests), grind (arith, nat_tests))

  -- its record and its numbers are written behind the others
  module _ (rs : Fill Record) (ns : Fill Float) (is : Fill Instruction) (r : Record)
      (new : r ≡ record_of (length s.numbers.front) f)
      (records : rs ≡ appended s.records (r ∷ []))
      (numbers : ns ≡ appended s.numbers (numbers_of f))
      (instructions : is ≡ s.instructions) where
    new_records : rs ≡ appended s.records (record_of (length s.numbers.front) f ∷ [])
    new_records = records ∙ ap (λ (q : Record). appended s.records (q ∷ [])) new

    grown : functions_in rs.front ns.front ≡ functions_of s ++ (f ∷ [])
    grown = (λ j. functions_in (new_records j).front (numbers j).front) ∙ functions_grown s.records.front s.numbers.front f s.inside

    -- so much of the lists is used, and they are as long as they were; and what a set always is holds of what is used
    pub still : ((length rs.front ≡ length s.records.front + 1) × (length ns.front ≡ r.end) × (length is.front ≡ length s.instructions.front))
        × ((length (whole rs) ≡ length (whole s.records)) × (length (whole ns) ≡ length (whole s.numbers)) × (length (whole is) ≡ length (whole s.instructions)))
        × (list_all (placed (length ns.front)) rs.front ≡ true)
        × (admitted [] (functions_in rs.front ns.front) ≡ true)
    still = (
      (
        ap (λ (fill : Fill Record). length fill.front) records ∙ length-append s.records.front (r ∷ []),
        ap (λ (fill : Fill Float). length fill.front) numbers ∙ sym (ap (λ (q : Record). q.end) new ∙ record_end s.numbers.front f),
        ap (λ (fill : Fill Instruction). length fill.front) instructions,
      ),
      (
        ap (λ (fill : Fill Record). length (whole fill)) records ∙ length-appended s.records (r ∷ []) room.0,
        ap (λ (fill : Fill Float). length (whole fill)) numbers ∙ length-appended s.numbers (numbers_of f) room.1,
        ap (λ (fill : Fill Instruction). length (whole fill)) instructions,
      ),
      (λ j. list_all (placed (length (numbers j).front)) (new_records j).front) ∙ placed_grown s.records.front s.numbers.front f s.inside,
      ap (admitted []) grown ∙ admitted_more [] (functions_of s) f s.lawful (passes_front (function_checks (functions_of s) f) _ passed),
    )

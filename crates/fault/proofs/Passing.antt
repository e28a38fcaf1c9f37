-- What a list of checks that pass says of each. Assumes nothing.
use Rattle.std.proofs.Common.{◌≡◌, Bool, true, false, cond, ◌&&◌, List, [], ◌∷◌, ◌++◌, Some, None, sym, refl, ◌∙◌}
use Rattle.std.proofs.lemmas.Bool.{cond-true, cond-false, and_from, and_parts}
use Rattle.fault.specs.declared.cause.Fault.{Fault}
use Rattle.fault.specs.Checks.{Check, first_fault, passes}

pub passes_none : (cs : List Check) → passes cs ≡ true → first_fault cs ≡ None
passes_none [] p = refl
passes_none (c ∷ cs) p = let t = and_parts c.holds (passes cs) p in cond-true c.holds (first_fault cs) (Some c.otherwise) t.0 ∙ passes_none cs t.1

pub none_passes : (cs : List Check) → first_fault cs ≡ None → passes cs ≡ true
none_passes [] p = refl
none_passes (c ∷ cs) p = go (λ q. none_passes cs q) c.holds refl
  where
    go : (first_fault cs ≡ None → passes cs ≡ true) → (b : Bool) → c.holds ≡ b → (c.holds && passes cs) ≡ true
    go rest true e = and_from c.holds (passes cs) e (rest (sym (cond-true c.holds (first_fault cs) (Some c.otherwise) e) ∙ p))
    go rest false e = let q : Some c.otherwise ≡ None = sym (cond-false c.holds (first_fault cs) (Some c.otherwise) e) ∙ p in cc

-- the checks before the others
pub passes_append : (cs ds : List Check) → passes cs ≡ true → first_fault (cs ++ ds) ≡ first_fault ds
passes_append [] ds p = refl
passes_append (c ∷ cs) ds p = let t = and_parts c.holds (passes cs) p in cond-true c.holds (first_fault (cs ++ ds)) (Some c.otherwise) t.0 ∙ passes_append cs ds t.1

pub fault_append : (cs ds : List Check) (e : Fault) → first_fault cs ≡ Some e → first_fault (cs ++ ds) ≡ Some e
fault_append [] ds e p = let q : None ≡ Some e = p in cc
fault_append (c ∷ cs) ds e p = go (λ q. fault_append cs ds e q) c.holds refl
  where
    go : (first_fault cs ≡ Some e → first_fault (cs ++ ds) ≡ Some e) → (b : Bool) → c.holds ≡ b → cond c.holds (first_fault (cs ++ ds)) (Some c.otherwise) ≡ Some e
    go rest true h = cond-true c.holds (first_fault (cs ++ ds)) (Some c.otherwise) h ∙ rest (sym (cond-true c.holds (first_fault cs) (Some c.otherwise) h) ∙ p)
    go rest false h = cond-false c.holds (first_fault (cs ++ ds)) (Some c.otherwise) h ∙ sym (cond-false c.holds (first_fault cs) (Some c.otherwise) h) ∙ p

pub passes_front : (cs ds : List Check) → passes (cs ++ ds) ≡ true → passes cs ≡ true
passes_front [] ds p = refl
passes_front (c ∷ cs) ds p = let t = and_parts c.holds (passes (cs ++ ds)) p in and_from c.holds (passes cs) t.0 (passes_front cs ds t.1)

pub passes_back : (cs ds : List Check) → passes (cs ++ ds) ≡ true → passes ds ≡ true
passes_back [] ds p = p
passes_back (c ∷ cs) ds p = passes_back cs ds (and_parts c.holds (passes (cs ++ ds)) p).1

-- The name of a field, after any `;`. Assumes nothing.
use Rattle.std.proofs.Common.{◌≡◌, ℕ, Bool, true, false, not, List, [], ◌∷◌, Some, None, Option, IfSome, Bor, option_map, sym, ap, ◌∙◌, subst}
use denote.Param.Members.{Mut}
use Rattle.std.specs.Fn.{CalledAt}
use Rattle.std.specs.Iterator.{Yields}
use Rattle.std.specs.List.{FoldsTo}
use Rattle.std.specs.Str.{bytes_eq}
use Rattle.std.proofs.lemmas.Bool.{not-true, not-false, both_ways}
use Rattle.std.proofs.lemmas.Slice.Eq.{bytes_eq-Decides}
use Rattle.command.specs.declared.words.Words.{Words}
use Rattle.command.specs.Cutting.{first_word, after_word, AtField, no_field, past, named}
use Rattle.command.specs.Left.{text, GivesWord}

name_none : (s t : List ℕ) → None ≡ first_word s → t ≡ after_word s → AtField s None t
name_none s t h e = subst (AtField s None) (sym e) (no_field (sym h))

name_here : (s w t : List ℕ) → Some w ≡ first_word s → t ≡ after_word s → (w ≡ 59 ∷ [] → ⊥) → AtField s (Some w) t
name_here s w t h e other = subst (AtField s (Some w)) (sym e) (named (sym h) other)

name_past : (s w t : List ℕ) → Some w ≡ first_word s → t ≡ after_word s → w ≡ 59 ∷ [] → (o : Option (List ℕ)) (rest : List ℕ) → AtField t o rest → AtField s o rest
name_past s w t h e is o rest a = past (sym h ∙ ap Some is) (subst (λ u. AtField u o rest) e a)

module _ {F : Type 0} (g : Mut F (Bor (Bor (List ℕ)) × Unit {0}) Bool) (f : F)
    (other : (x : Bor (List ℕ)) (b : Bool) (q : F) → CalledAt g f x b q → (q ≡ f) × (b ≡ not (bytes_eq x.now (59 ∷ [])))) where
  -- the words xs, where f answered false, are all `;`, and r, where it answered true, is none
  pub name_found : (xs : List (Bor (List ℕ))) (s t u : Words) (r : Option (Bor (List ℕ))) (h : F)
      → Yields GivesWord s xs t → GivesWord t r u → FoldsTo (λ p x q. CalledAt g p x false q) f xs h → IfSome r (λ x. (q : F) × CalledAt g h x true q)
      → AtField (text s) (option_map (λ x. x.now) r) (text u)
  name_found [] s t u None h e gives turns last =
      subst (λ v. AtField (text v) None (text u)) (sym e) (name_none (text t) (text u) gives.word gives.rest)
  name_found [] s t u (Some x) h e gives turns last =
      let told = other x true last.0 (subst (λ p. CalledAt g p x true last.0) (sym turns) last.1) in
      let differs = not-true _ (sym told.1) in
      let here = name_here (text t) x.now (text u) gives.word gives.rest (λ is. both_ways _ differs ((bytes_eq-Decides x.now (59 ∷ [])).1 is)) in
      subst (λ v. AtField (text v) (Some x.now) (text u)) (sym e) here
  name_found (x ∷ xs) s t u r h yields gives turns last =
      let told = other x false turns.0 turns.1 in
      let on = subst (λ p. FoldsTo (λ p x q. CalledAt g p x false q) p xs h) told.0 turns.2 in
      let is = (bytes_eq-Decides x.now (59 ∷ [])).0 (not-false _ (sym told.1)) in
      name_past (text s) x.now (text yields.0) yields.1.word yields.1.rest is _ _ (name_found xs yields.0 t u r h yields.2 gives on last)

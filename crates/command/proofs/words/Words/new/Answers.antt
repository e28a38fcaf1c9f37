use Rattle.std.proofs.Common.{◌≡◌, ℕ, List, [], ◌∷◌, ◌++◌, Some, None, Option, unwrap_or, sym, refl, subst, inl, inr, arith, Bor, MatchOption}
use Rattle.std.proofs.lemmas.Str.Pattern.{strip_suffix_char}
use Rattle.command.specs.Lines.{Unreturned}
use Rattle.command.proofs.words.Words.new.Goals as goal

-- the line with no carriage return, or else the line
stripped : (line : Bor (List ℕ)) (o : Option (Bor (List ℕ))) → MatchOption o ((front : List ℕ) → line.now ≡ front ++ (13 ∷ []) → ⊥) (λ x. line.now ≡ x.now ++ (13 ∷ [])) → Unreturned line.now (unwrap_or o line).now
stripped line None h = inr (refl, h)
stripped line (Some x) h = inl h

pub returns : goal.returns
returns c =
    subst (λ (s : Bor (List ℕ)). Unreturned c.args.line.now s.now) (sym c.unwrap_or-rest.ensures)
    (stripped c.args.line c.strip_suffix.result (strip_suffix_char 13 c.args.line.now c.strip_suffix.result c.strip_suffix.ensures.cases (omega arith)))

-- Lines that are read one after the other.
use Rattle.std.proofs.Common.{◌≡◌, ℕ, List, [], ◌∷◌, map, subst, sym, ap, ◌∙◌, Bor, arith}
use Rattle.std.specs.Prelude.{Option, Result, None, Ok, IfOk}
use Rattle.std.specs.List.{All}
use Rattle.std.proofs.lemmas.List.Elements.{All-nil, All-cons, All-head, All-rest}
use Rattle.command.specs.Cutting.{first_word}
use Rattle.command.specs.Lines.{Unreturned, Silent, Says}
use Rattle.command.specs.declared.line.Command.{Command}
use Rattle.session.specs.Jobs.{IsUnderstood, IsSilent, ReadsOn}

pub ReadsOn_further : (before between after : List (List ℕ)) → ReadsOn before between → ReadsOn between after → ReadsOn before after
ReadsOn_further before between after first then =
    record { no_longer = omega (arith, first.no_longer, then.no_longer); understood = λ all. first.understood (then.understood all) }

-- one line that was read, with those behind it
pub ReadsOn_line : {E : Type 0} (line : Bor (List ℕ)) (rest all : List (Bor (List ℕ))) (call : Option Command) (r : Result (Option Command) E) → all ≡ line ∷ rest → r ≡ Ok call → IfOk r (λ o. (s : List ℕ) × Unreturned line.now s × Says s o) → ReadsOn (map (λ l. l.now) all) (map (λ l. l.now) rest)
ReadsOn_line line rest all call r is reads says =
    let Q : Result (Option Command) _ → Type 0 = λ r. IfOk r (λ o. (s : List ℕ) × Unreturned line.now s × Says s o) in
    let at_call = subst Q reads says in
    let first : IsUnderstood line.now = record { call = call; words = at_call.0; unreturned = at_call.1; says = at_call.2 } in
    let P : List (Bor (List ℕ)) → Type 0 = λ ls. ReadsOn (map (λ l. l.now) ls) (map (λ l. l.now) rest) in
    subst P (sym is) record { no_longer = grind arith; understood = λ others. All-cons IsUnderstood line.now _ first others }

-- the lines that are left at first are those of the text
pub left_at_first : (items first : List (Bor (List ℕ))) (lines : List (List ℕ)) → first ≡ items → map (λ l. l.now) items ≡ lines → map (λ l. l.now) first ≡ lines
left_at_first items first lines is cut = ap (map (λ l. l.now)) is ∙ cut

-- the first of lines that are all silent is read as no call
pub first_silent : {E : Type 0} (line : Bor (List ℕ)) (rest all : List (Bor (List ℕ))) (r : Result (Option Command) E) → all ≡ line ∷ rest → ((s : List ℕ) → Unreturned line.now s → Silent (first_word s) → r ≡ Ok None) → All IsSilent (map (λ l. l.now) all) → r ≡ Ok None
first_silent line rest all r is reads silent =
    let P : List (Bor (List ℕ)) → Type 0 = λ ls. All IsSilent (map (λ l. l.now) ls) in
    let first = All-head IsSilent line.now (map (λ l. l.now) rest) (subst P is silent) in
    reads first.words first.unreturned first.silent

-- and the others are silent too
pub others_silent : (line : Bor (List ℕ)) (rest all : List (Bor (List ℕ))) → all ≡ line ∷ rest → All IsSilent (map (λ l. l.now) all) → All IsSilent (map (λ l. l.now) rest)
others_silent line rest all is silent =
    All-rest IsSilent line.now (map (λ l. l.now) rest) (map (λ l. l.now) all) (ap (map (λ l. l.now)) is) silent

-- where no line is left, none says anything
pub end_silent : (lines : List (List ℕ)) → lines ≡ [] → All IsSilent lines
end_silent lines is = subst (All IsSilent) (sym is) (All-nil IsSilent)

-- A list of numbers, read word by word. Assumes nothing.
use Rattle.std.proofs.Common.{◌≡◌, ℕ, List, [], ◌∷◌, ◌++◌, Some, None, sym, ap, ◌∙◌, subst, append_assoc, append-nil}
use lib.Ieee.{Float}
use Rattle.command.specs.Cutting.{field_word, followed}
use Rattle.command.specs.Fields.{Numbers, no_number, number}
use Rattle.numerals.specs.Numbers.{ReadsNumber}

-- the numbers from s on stand after those so far, which were read from the start
pub record Keeps (start s : List ℕ) (old : List Float) : Type 0 where
  pub on : (xs : List Float) (t : List ℕ) → Numbers s xs t → Numbers start (old ++ xs) t

pub list_more : {start : List ℕ} {s u w : List ℕ} {x : Float} {old new : List Float} → Keeps start s old → Some w ≡ field_word s → u ≡ followed (field_word s) s → ReadsNumber w (Some x) → new ≡ old ++ (x ∷ []) → Keeps start u new
list_more {start} {s} {u} {w} {x} {old} {new} keeps h e r grown =
    record {
      on = λ xs t rest.
          subst (λ (ys : List Float). Numbers start ys t) (sym (ap (λ (ys : List Float). ys ++ xs) grown ∙ append_assoc old (x ∷ []) xs))
          (keeps.on (x ∷ xs) t (number (w, (sym h, e ∙ ap (λ o. followed o s) (sym h)), r) rest));
    }

pub list_end : {start : List ℕ} {s t : List ℕ} {all : List Float} → Keeps start s all → None ≡ field_word s → t ≡ followed (field_word s) s → Numbers start all t
list_end {start} {s} {t} {all} keeps h e =
    subst (λ (ys : List Float). Numbers start ys t) (append-nil all) (keeps.on [] t (no_number (sym h) (e ∙ ap (λ o. followed o s) (sym h))))

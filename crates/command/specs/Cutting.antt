-- How a line is cut into words. Assumes nothing.
use Rattle.std.specs.Prelude.{◌≡◌, ℕ, suc, Bool, cond, ◌||◌, List, [], ◌∷◌, take, drop, Some, None, Option, ◌==◌, ◌≢◌}
use Rattle.std.specs.Str.{bytes_eq}

-- a space or a tab
abbrev pub blank : ℕ → Bool
blank c = c == 32 || c == 9

-- what a word ends before: a blank or a `;`
abbrev pub ends : ℕ → Bool
ends c = blank c || c == 59

abbrev pub after_blanks : List ℕ → List ℕ
after_blanks [] = []
after_blanks (c ∷ cs) = cond (blank c) (after_blanks cs) (c ∷ cs)

-- how many bytes stand before the first that ends a word
abbrev pub up_to : List ℕ → ℕ
up_to [] = 0
up_to (c ∷ cs) = cond (ends c) 0 (suc (up_to cs))

-- how long the word is at the front of a text that begins with no blank: a `;` is a word of its own
abbrev pub word_length : List ℕ → ℕ
word_length [] = 0
word_length (c ∷ cs) = cond (c == 59) 1 (up_to (c ∷ cs))

abbrev pub front : List ℕ → Option (List ℕ)
front [] = None
front (c ∷ cs) = Some (take (word_length (c ∷ cs)) (c ∷ cs))

-- the first word of a text, if it has one, and what follows that
abbrev pub first_word : List ℕ → Option (List ℕ)
first_word bs = front (after_blanks bs)

abbrev pub after_word : List ℕ → List ℕ
after_word bs = drop (word_length (after_blanks bs)) (after_blanks bs)

-- the next word of a field, which ends at a `;` or with the line, and what follows that word
abbrev pub unless_end : Option (List ℕ) → Option (List ℕ)
unless_end None = None
unless_end (Some w) = cond (bytes_eq w (59 ∷ [])) None (Some w)

abbrev pub field_word : List ℕ → Option (List ℕ)
field_word bs = unless_end (first_word bs)

abbrev pub followed : Option (List ℕ) → List ℕ → List ℕ
followed None bs = bs
followed (Some w) bs = after_word bs

-- the name of the next field after any `;`, and what follows it
pub data AtField : List ℕ → Option (List ℕ) → List ℕ → Type 0 where
  no_field : {bs : List ℕ} → first_word bs ≡ None → AtField bs None (after_word bs)
  past : {bs rest : List ℕ} {o : Option (List ℕ)} → first_word bs ≡ Some (59 ∷ []) → AtField (after_word bs) o rest → AtField bs o rest
  named : {bs w : List ℕ} → first_word bs ≡ Some w → (w ≢ 59 ∷ []) → AtField bs (Some w) (after_word bs)

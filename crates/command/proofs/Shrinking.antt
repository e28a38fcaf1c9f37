-- How much shorter a line gets by what is read of it. Assumes nothing.
use Rattle.std.proofs.Common.{◌≡◌, ℕ, ◌<◌, ◌≤◌, true, false, eqb, List, [], ◌∷◌, length, Some, None, Option, Float, refl, ap, ⊎_elim, arith, length-drop}
use Rattle.std.proofs.lemmas.Bool.{cases_Bool}
use Rattle.command.specs.declared.exponential.Draft.{Draft}
use Rattle.command.specs.Cutting.{blank, after_blanks, word_length, front, first_word, after_word, field_word, unless_end, AtField, past, named}
use Rattle.command.specs.Fields.{Numbers, no_number, number}
use Rattle.command.specs.Loads.{Filled, domain_field, range_field, c0_field, c1_field, n_field}

-- no blank is in front
abbrev pub Bare : List ℕ → Type 0
Bare [] = Unit {0}
Bare (c ∷ cs) = blank c ≡ false

pub after_blanks_bare : (s : List ℕ) → (length (after_blanks s) ≤ length s) × Bare (after_blanks s)
after_blanks_bare [] = (omega arith, tt)
after_blanks_bare (c ∷ cs) = ⊎_elim
    (λ is. let rest = after_blanks_bare cs in rw is (omega (arith, rest.0), rest.1))
    (λ not. rw not (omega arith, not))
    (cases_Bool (blank c))

some_word : (r w : List ℕ) → Bare r → front r ≡ Some w → (0 < word_length r) × (0 < length r)
some_word [] w bare e = (cc)
some_word (c ∷ cs) w bare e = ⊎_elim
    (λ (is : eqb c 59 ≡ true). (rw is (omega arith), omega arith))
    (λ (other : eqb c 59 ≡ false). let flat : blank c ≡ false = bare in (rw (other, flat) (omega arith), omega arith))
    (cases_Bool (eqb c 59))

pub word_shortens : (s w : List ℕ) → first_word s ≡ Some w → length (after_word s) < length s
word_shortens s w e =
    let r = after_blanks_bare s in
    let some = some_word (after_blanks s) w r.1 e in
    omega (arith, r.0, some.0, some.1, length-drop (word_length (after_blanks s)) (after_blanks s))

pub length-after_word : (s : List ℕ) → length (after_word s) ≤ length s
length-after_word s = omega (arith, (after_blanks_bare s).0, length-drop (word_length (after_blanks s)) (after_blanks s))

is_word : (o : Option (List ℕ)) (w : List ℕ) → unless_end o ≡ Some w → (v : List ℕ) × (o ≡ Some v)
is_word None w e = (cc)
is_word (Some v) w e = (v, refl)

pub field_word_shortens : (s w : List ℕ) → field_word s ≡ Some w → length (after_word s) < length s
field_word_shortens s w e = let first = is_word (first_word s) w e in word_shortens s first.0 first.1

pub name_shortens : {s w t : List ℕ} → AtField s (Some w) t → length t < length s
name_shortens {s} (past first rest) = omega (arith, word_shortens s (59 ∷ []) first, name_shortens rest)
name_shortens {s} {w} (named first other) = word_shortens s w first

pub numbers_shorten : {s t : List ℕ} {xs : List Float} → Numbers s xs t → length t ≤ length s
numbers_shorten (no_number none e) = omega (arith, ap length e)
numbers_shorten (number {s} one more) = omega (arith, ap length one.1.1, length-after_word s, numbers_shorten more)

-- the fields of a line
pub filled_shortens : {name s t : List ℕ} {d e : Draft} → Filled name d e s t → length t ≤ length s
filled_shortens (domain_field v a b f told) = numbers_shorten told.1
filled_shortens (range_field v a b f told) = numbers_shorten told.1
filled_shortens (c0_field v a b f told) = numbers_shorten told
filled_shortens (c1_field v a b f told) = numbers_shorten told
filled_shortens {s = s} (n_field x a b f told) = omega (arith, ap length told.0.1.1, length-after_word s)

-- What trimming blanks and looking for a word's end come to, by bytes. Assumes nothing.
use Rattle.std.proofs.Common.{◌≡◌, ℕ, zero, suc, ◌<◌, ◌≤◌, Bool, true, false, eqb, ◌⊎◌, List, [], ◌∷◌, ◌++◌, length, get_or, take, drop, IfSome, Some, None, Option, sym, refl, ap, ◌∙◌, ⊎_elim, arith, length-take-le, get_or-take, true-eqb}
use borrow.Author.Tests.{clash}
use lib.Utf8.{low_scalar}
use Rattle.std.specs.Char.{char_set_contains, len_utf8}
use Rattle.std.specs.Str.Pattern.{HasPassingCharAt, FindsPrefixBy, FindsCharPrefix, CutsPrefixes, IsTrimStartMatches}
use Rattle.std.specs.Str.{NoCharPasses}
use Rattle.std.proofs.lemmas.Str.{NoCharPasses-byte}
use Rattle.std.proofs.lemmas.Str.Ascii.{encode_ascii}
use Rattle.std.proofs.lemmas.Str.Pattern.{drop_at_char}
use Rattle.std.proofs.lemmas.Bool.{ne_eqb, both_ways, cases_Bool}
use Rattle.std.proofs.lemmas.Bool.Decides.{nat_tests}
use Rattle.command.proofs.Shrinking.{Bare}
use Rattle.command.specs.Cutting.{blank, ends, after_blanks, up_to, word_length, front, first_word, after_word}

pub are_blanks : (c : ℕ) → char_set_contains (32 ∷ 9 ∷ []) c ≡ blank c
are_blanks c = grind (arith, nat_tests)

pub are_ends : (c : ℕ) → char_set_contains (32 ∷ 9 ∷ 59 ∷ []) c ≡ ends c
are_ends c = grind (arith, nat_tests)

blank_is : (c : ℕ) → blank c ≡ true → (c ≡ 32) ⊎ (c ≡ 9)
blank_is c h = grind (arith, nat_tests)

blank_small : (c : ℕ) → blank c ≡ true → c < 128
blank_small c h = grind (arith, nat_tests)

ends_small : (c : ℕ) → ends c ≡ true → c < 128
ends_small c h = grind (arith, nat_tests)

-- what `trim_start_matches` says of the blanks
abbrev pub Begins : List ℕ → Option ℕ → Type 0
Begins m o = (k : ℕ → Bool) → ((c : ℕ) → char_set_contains (32 ∷ 9 ∷ []) c ≡ k c) → FindsPrefixBy k m o

skipped : (s r ns : List ℕ) → CutsPrefixes Begins s ns r → after_blanks s ≡ after_blanks r
skipped s r [] h = ap after_blanks (sym h)
skipped s r (n ∷ ns) (m, p, b, e) =
    let found = b blank are_blanks in
    let c = found.0 in
    let whole : m ≡ c ∷ drop n m = drop_at_char c m 0 n found.2 (blank_small c found.1) in
    let here : after_blanks (c ∷ drop n m) ≡ after_blanks (drop n m) = rw found.1 refl in
    skipped s m ns p ∙ ap after_blanks whole ∙ here ∙ ap after_blanks (sym e)

bare : (r : List ℕ) (o : Option ℕ) → Begins r o → IfSome o (λ n. n ≡ 0) → Bare r
bare [] o b z = tt
bare (c ∷ cs) None b z =
    let none = b blank are_blanks in
    ⊎_elim
    (λ h. let small = blank_small c h in none c cs (low_scalar c (omega arith)) (ap (λ bs. bs ++ cs) (sym (encode_ascii c small))))
    (λ h. h)
    (cases_Bool (blank c))
bare (c ∷ cs) (Some n) b z =
    let found = b blank are_blanks in
    absurd (⊎_elim (λ e. omega (arith, found.2.ends, ap len_utf8 e)) (λ e. omega (arith, found.2.ends, ap len_utf8 e)) (blank_is found.0 found.1))

bare_stays : (r : List ℕ) → Bare r → after_blanks r ≡ r
bare_stays [] h = refl
bare_stays (c ∷ cs) h = rw h refl

pub trimmed : (s r : List ℕ) → IsTrimStartMatches Begins s r → (r ≡ after_blanks s) × Bare r
trimmed s r ((ns, p), (o, b, z)) =
    let left = bare r o b z in
    (sym (bare_stays r left) ∙ sym (skipped s r ns p), left)

-- a byte of a text in which no word ends
inside : (bs : List ℕ) → NoCharPasses ends bs → (i : ℕ) → i < length bs → ends (get_or bs i 0) ≡ false
inside bs h i lt = ⊎_elim
    (λ (is : ends (get_or bs i 0) ≡ true). NoCharPasses-byte ends bs i h lt (ends_small (get_or bs i 0) is))
    (λ no. no)
    (cases_Bool (ends (get_or bs i 0)))

up_to_at : (s : List ℕ) (n : ℕ) → n ≤ length s → ((i : ℕ) → i < n → ends (get_or s i 0) ≡ false) → (n < length s → ends (get_or s n 0) ≡ true) → up_to s ≡ n
up_to_at [] n h before here = omega arith
up_to_at (c ∷ cs) zero h before here = rw (here (omega arith)) refl
up_to_at (c ∷ cs) (suc n) h before here =
    let first : ends c ≡ false = before 0 (omega arith) in
    rw first (ap suc (up_to_at cs n (omega arith) (λ i lt. before (suc i) (omega arith)) (λ lt. here (omega arith))))

pub up_to_none : (s : List ℕ) → NoCharPasses ends s → up_to s ≡ length s
up_to_none s h = up_to_at s (length s) (omega arith) (inside s h) (λ lt. absurd (omega arith))

pub up_to_found : (s : List ℕ) (i j : ℕ) → NoCharPasses ends (take i s) → HasPassingCharAt ends s i j → i ≤ length s → up_to s ≡ i
up_to_found s i j h (c, e, at) le =
    up_to_at s i le
    (λ k lt. ap ends (sym (get_or-take i s k 0 lt)) ∙ inside (take i s) h k (rw (length-take-le i s le) lt))
    (λ lt. ap ends (at.byte (ends_small c e)) ∙ e)

-- after the blanks nothing is left
pub no_word : (s r : List ℕ) → IsTrimStartMatches Begins s r → true ≡ eqb (length r) 0 → (None ≡ first_word s) × (r ≡ after_word s)
no_word s [] h e = let is = (trimmed s [] h).0 in (ap front is, ap (λ bs. drop (word_length bs) bs) is)
no_word s (c ∷ cs) h e = absurd (omega (arith, true-eqb (length (c ∷ cs)) 0 e))

-- a word stands after the blanks
pub bare_word : (s r : List ℕ) → IsTrimStartMatches Begins s r → false ≡ eqb (length r) 0 → blank (get_or r 0 32) ≡ false
bare_word s [] h e = absurd (clash e)
bare_word s (c ∷ cs) h e = (trimmed s (c ∷ cs) h).1

pub a_word : (s r w t : List ℕ) → IsTrimStartMatches Begins s r → false ≡ eqb (length r) 0 → w ≡ take (word_length r) r → t ≡ drop (word_length r) r → (Some w ≡ first_word s) × (t ≡ after_word s)
a_word s [] w t h e p q = absurd (clash e)
a_word s (c ∷ cs) w t h e p q =
    let is = (trimmed s (c ∷ cs) h).0 in
    (ap Some p ∙ ap front is, q ∙ ap (λ bs. drop (word_length bs) bs) is)

-- a word that is no `;` is as long as it goes
pub long : (s : List ℕ) → blank (get_or s 0 32) ≡ false → FindsCharPrefix 59 s None → word_length s ≡ up_to s
long [] b none = absurd (both_ways true b refl)
long (c ∷ cs) b none =
    let other : eqb c 59 ≡ false = ne_eqb c 59 (λ e. none cs (ap (λ (d : ℕ). d ∷ cs) e ∙ ap (λ bs. bs ++ cs) (sym (encode_ascii 59 (omega arith))))) in
    rw other refl

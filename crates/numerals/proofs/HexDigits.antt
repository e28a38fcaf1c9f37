-- What `{:08x}` writes of a number of 32 bits. Assumes nothing.
use Rattle.std.proofs.Common.{◌≡◌, ℕ, zero, suc, ◌+◌, ◌-◌, ◌/◌, ◌%◌, ◌^◌, ◌<◌, Bool, true, false, cond, eqb, List, [], ◌∷◌, ◌++◌, length, replicate, refl, sym, ap, length-append, ◌∙◌, ⊎_elim, append_assoc, append-nil, add-one, arith}
use Rattle.std.proofs.Math.Nat.{pow-suc}
use Rattle.std.proofs.lemmas.Bool.{eqb-true, eq-eqb, cases_Bool}
use Rattle.std.proofs.lemmas.List.{replicate-append-replicate, length-replicate}
use Rattle.std.specs.Char.{digit_char}
use Rattle.std.specs.Fmt.{digits_onto, digits, padded_integral, char_count, format_spec}
use Rattle.numerals.specs.Numbers.{hex_text}

hex_text-zero : (k : ℕ) → hex_text k 0 ≡ replicate k 48
hex_text-zero zero = refl
hex_text-zero (suc k) = ap (λ ds. ds ++ (48 ∷ [])) (hex_text-zero k) ∙ replicate-append-replicate k 1 48 ∙ ap (λ (n : ℕ). replicate n 48) (add-one k)

-- a number of one digit, after zeros
one_digit : (k n : ℕ) (acc : List ℕ) → n / 16 ≡ 0 → replicate k 48 ++ (digit_char (n % 16) ∷ acc) ≡ hex_text (suc k) n ++ acc
one_digit k n acc z =
    ap (λ ds. ds ++ (digit_char (n % 16) ∷ acc)) (sym (hex_text-zero k) ∙ ap (hex_text k) (sym z))
    ∙ sym (append_assoc (hex_text k (n / 16)) (digit_char (n % 16) ∷ []) acc)

-- the digits of n before acc, where t says that n has one digit
onto_by : (k n : ℕ) (acc : List ℕ) (t : Bool) → eqb (n / 16) 0 ≡ t → digits_onto (suc k) 16 false n acc ≡ cond t (digit_char (n % 16) ∷ acc) (digits_onto k 16 false (n / 16) (digit_char (n % 16) ∷ acc))
onto_by k n acc t e = ap (λ (b : Bool). cond b (digit_char (n % 16) ∷ acc) (digits_onto k 16 false (n / 16) (digit_char (n % 16) ∷ acc))) e

-- some zeros fill the digits of n up to one more than k
filled : (k j n : ℕ) (acc : List ℕ) → n < 16 ^ suc k → k < j → (m : ℕ) × (replicate m 48 ++ digits_onto j 16 false n acc ≡ hex_text (suc k) n ++ acc)
filled k zero n acc small le = absurd (omega arith)
filled zero (suc j) n acc small le =
    let none : n / 16 ≡ 0 = omega arith in
    (0, onto_by j n acc true (eq-eqb (n / 16) 0 none) ∙ one_digit 0 n acc none)
filled (suc k) (suc j) n acc small le = ⊎_elim
    (λ z. (suc k, ap (λ ds. replicate (suc k) 48 ++ ds) (onto_by j n acc true z) ∙ one_digit (suc k) n acc (eqb-true (n / 16) 0 z)))
    (λ z.
    let rest = filled k j (n / 16) (digit_char (n % 16) ∷ acc) (omega (arith, pow-suc 16 (suc k))) (omega arith) in
    (rest.0, ap (λ ds. replicate rest.0 48 ++ ds) (onto_by j n acc false z) ∙ rest.1 ∙ sym (append_assoc (hex_text (suc k) (n / 16)) (digit_char (n % 16) ∷ []) acc)))
    (cases_Bool (eqb (n / 16) 0))

length-replicate_append : (m : ℕ) (ds : List ℕ) → length (replicate m 48 ++ ds) ≡ m + length ds
length-replicate_append m ds = simp (length-append, length-replicate) refl

-- zeros up to eight digits
zeros_before : (ds : List ℕ) (m : ℕ) → m + length ds ≡ 8 → padded_integral (format_spec 32 0 4 8 (2 ^ 64 - 1)) false [] ds ≡ replicate m 48 ++ ds
unfolding padded_integral char_count
zeros_before ds m e = let fill : 8 - length ds - 0 - 0 ≡ m = omega arith in rw append-nil (ap (λ (i : ℕ). replicate i 48 ++ ds) fill)

length-hex_text : (k n : ℕ) → length (hex_text k n) ≡ k
length-hex_text zero n = refl
length-hex_text (suc k) n = omega (arith, length-append (hex_text k (n / 16)) (digit_char (n % 16) ∷ []), length-hex_text k (n / 16))

pub hex_eight : (n : ℕ) → n < 2 ^ 32 → padded_integral (format_spec 32 0 4 8 (2 ^ 64 - 1)) false [] (digits 16 false n) ≡ hex_text 8 n
unfolding digits
hex_eight n small =
    let all = filled 7 64 n [] (omega arith) (omega arith) in
    let whole = all.1 ∙ append-nil (hex_text 8 n) in
    zeros_before (digits 16 false n) all.0 (sym (length-replicate_append all.0 (digits 16 false n)) ∙ ap length whole ∙ length-hex_text 8 n) ∙ whole

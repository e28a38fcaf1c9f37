use Rattle.std.proofs.Common.{◌≡◌, ℕ, ◌^◌, ◌<◌, ◌≤◌, false, List, length, get_or, Option, None, Result, Ok, Err, MatchOption, sym, ap, ◌∙◌, subst, arith, ne_eqb}
use native.Mathlib.Nat.{pow-le-pow_right}
use Rattle.std.specs.Str.Parse.{AllDigits, IsNumeral, without_leading_plus, digits_value, ParsesUnsigned}
use Rattle.std.specs.Result.{result_ok}
use Rattle.std.specs.Str.Pattern.{FindsCharPrefix}
use Rattle.std.proofs.lemmas.Int.Digits.{digits_value-lt}
use Rattle.std.proofs.lemmas.Str.Pattern.{starts_char}
use Rattle.numerals.specs.Numbers.{BitDigits}
use Rattle.numerals.proofs.number.from_hex.Goals as goal
use Rattle.numerals.proofs.number.from_hex.Goals.{After-from_str_radix}

-- where no plus stands first, none is passed over
plain : (bs : List ℕ) → FindsCharPrefix 43 bs None → without_leading_plus bs ≡ bs
plain bs h =
    let other : get_or bs 0 0 ≡ 43 → ⊥ = λ e. let f = (starts_char 43 bs false h (omega arith) (omega arith)).1 e in let z : ◌≡◌ {A = ℕ} 0 1 = cc in omega arith in
    rw (ne_eqb (get_or bs 0 0) 43 other)

-- eight digits write at most 32 bits
short : (ds : List ℕ) → AllDigits 16 ds → length ds ≤ 8 → digits_value 16 ds < 4294967296
short ds h le = let most : 16 ^ length ds ≤ 16 ^ 8 = pow-le-pow_right (omega arith) le in omega (arith, digits_value-lt 16 ds h)

-- o is the number that the digits ds write
abbrev Reads : List ℕ → Option ℕ → Type 0
Reads ds o = MatchOption o (BitDigits ds → ⊥) (λ n. BitDigits ds × (n ≡ digits_value 16 ds))

read : {E : Type 0} (ds : List ℕ) (r : Result ℕ E) → without_leading_plus ds ≡ ds → length ds ≤ 8 → ParsesUnsigned 32 16 ds r → Reads ds (result_ok r)
read ds (Ok n) e le h = ((subst (IsNumeral 16) e h.0.0, le), h.1 ∙ ap (digits_value 16) e)
read ds (Err x) e le h = λ d. h (subst (IsNumeral 16) (sym e) d.0, subst (λ (bs : List ℕ). digits_value 16 bs < 4294967296) (sym e) (short ds d.0.1 d.1))

-- what is read of the digits, whether or not they write a number
told : (c : After-from_str_radix) → Reads c.args.digits.now (result_ok c.from_str_radix.result)
told c = read _ _ (plain c.args.digits.now c.if-starts_with.ensures.cases) (omega arith) c.from_str_radix.ensures.value

pub returns-in_err-bits : goal.returns-in_err-bits
returns-in_err-bits c =
    rw c.from_residual.ensures (subst (Reads c.args.digits.now) (sym c.in_err-bits.ensures.value) (told (goal.at.returns-in_err-bits c).After-from_str_radix))

-- What loading needs, where all checks pass. Assumes nothing.
use Rattle.std.proofs.Common.{◌≡◌, ℕ, ◌+◌, ◌*◌, true, List, ◌++◌, length, Some, None, Ok, Err, Option, sym, refl, ap, ◌∙◌, arith, length-append}
use Rattle.fault.specs.declared.cause.Fault.{Fault}
use Rattle.fault.specs.Checks.{Check, first_fault, passes}
use Rattle.fault.proofs.Passing.{passes_none, none_passes, passes_append, fault_append}
use Rattle.numeric.specs.Lists.{flat}
use Rattle.numeric.proofs.Flat.{length_flat}
use Rattle.function.specs.Function.{Function}
use Rattle.function.specs.Numbers.{numbers_of, body_numbers, judged}

pub judged_passes : {A : Type 0} (cs : List Check) (k n : A) → passes cs ≡ true → k ≡ n → Ok k ≡ judged (first_fault cs) n
judged_passes {A} cs k n p e = ap (λ (i : A). Ok i) e ∙ sym (ap (λ o. judged o n) (passes_none cs p))

-- two entries for each pair, one for each other number
pub numbers_length : (f : Function) → length (numbers_of f) ≡ 2 * length f.domain + 2 * length f.range + length (body_numbers f.body)
numbers_length f =
    let a = length-append (flat f.domain) (flat f.range ++ body_numbers f.body) in
    let b = length-append (flat f.range) (body_numbers f.body) in
    let d = length_flat f.domain in
    let r = length_flat f.range in
    omega arith

-- ---- what an answer says of the checks behind it

pub judged_ok : {A : Type 0} (o : Option Fault) (k n : A) → Ok k ≡ judged o n → (o ≡ None) × (k ≡ n)
judged_ok None k n e = (refl, cc)
judged_ok (Some d) k n e = let z : ◌≡◌ {A = ℕ} 0 1 = cc in absurd (omega arith)

pub judged_err : {A : Type 0} (o : Option Fault) (d : Fault) (n : A) → Err d ≡ judged o n → o ≡ Some d
judged_err None d n e = cc
judged_err (Some c) d n e = cc

-- more checks behind those that were made
pub judged_break : {A : Type 0} (cs ds : List Check) (d : Fault) (n : A) → Err d ≡ judged (first_fault cs) n → Err d ≡ judged (first_fault (cs ++ ds)) n
judged_break cs ds d n e = sym (ap (λ (o : Option Fault). judged o n) (fault_append cs ds d (judged_err (first_fault cs) d n e)))

pub judged_more : {A : Type 0} (cs ds : List Check) (k n : A) → Ok k ≡ judged (first_fault cs) n → first_fault (cs ++ ds) ≡ first_fault ds
judged_more cs ds k n e = passes_append cs ds (none_passes cs (judged_ok (first_fault cs) k n e).0)

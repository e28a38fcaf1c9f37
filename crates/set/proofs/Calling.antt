-- The checks of a call of a loaded function, and how many outputs it has. Assumes nothing.
use Rattle.std.proofs.Common.{◌≡◌, ℕ, ◌-◌, ◌/◌, ◌<◌, ◌≤◌, true, false, ◌&&◌, ◌==◌, nat_lt, nat_le, List, [], length, take, Some, None, Ok, Option, slice_get, ap, ◌∙◌, arith}
use lib.Ieee.{Float}
use Rattle.std.proofs.lemmas.Bool.{cond-true, cond-false, and_parts, lt-ltb}
use Rattle.std.proofs.lemmas.Bool.Decides.{nat_tests}
use Rattle.fault.specs.Checks.{fault, first_fault, passes}
use Rattle.fault.proofs.Passing.{none_passes}
use Rattle.fault.specs.declared.cause.Fault.{Fault}
use Rattle.fault.specs.declared.cause.Cause.TheVariants.{InputCount, OutputList}
use Rattle.numeric.specs.Interval.{Interval, clamp_all}
use Rattle.numeric.proofs.Ranges.{length_clamp_all}
use Rattle.function.specs.Answer.{Meaning, first}
use Rattle.function.specs.Evaluate.{compute, clamp_outputs, run}
use Rattle.function.specs.Exponential.{counts_fit, factor, mixed}
use Rattle.function.specs.Function.{Body, exponential}
use Rattle.function.specs.Limits.{most_outputs, full_list}
use Rattle.function.specs.declared.record.Record.{Record}
use Rattle.function.proofs.Mixing.{mixed_length}
use Rattle.set.specs.Steps.{at, answer, answer_by, body_checks, call_checks}
use Rattle.set.specs.declared.set.Set.{Set}
use Rattle.set.proofs.Reading.{functions_of, within, inputs_is, admitted_at}

-- a call of the function i, whose record is r
module _ (s : Set) (i inputs room : ℕ) (r : Record) (found : slice_get s.records.front i ≡ Some r) where
  loaded : nat_lt i (length (functions_of s)) ≡ true
  loaded = lt-ltb _ _ (within s i r found)

  as_many : (inputs == length (at (functions_of s) i).domain) ≡ (inputs == (r.range - r.domain) / 2)
  as_many = ap (λ (n : ℕ). inputs == n) (inputs_is s i r found)

  pub other_inputs : (inputs == (r.range - r.domain) / 2) ≡ false → first_fault (call_checks (functions_of s) i inputs room) ≡ Some (fault InputCount i)
  other_inputs e = cond-true _ _ _ loaded ∙ cond-false _ _ _ (as_many ∙ e)

  module _ (e : (inputs == (r.range - r.domain) / 2) ≡ true) where
    pub short_list : nat_le full_list room ≡ false → first_fault (call_checks (functions_of s) i inputs room) ≡ Some (fault OutputList i)
    short_list h = cond-true _ _ _ loaded ∙ cond-true _ _ _ (as_many ∙ e) ∙ cond-false _ _ _ h

    pub all_fit : nat_le full_list room ≡ true → first_fault (call_checks (functions_of s) i inputs room) ≡ None
    all_fit h = cond-true _ _ _ loaded ∙ cond-true _ _ _ (as_many ∙ e) ∙ cond-true _ _ _ h

-- ---- no function has more outputs than a full list has places

few_by_body : (index : ℕ) (domain range : List Interval) (b : Body) (μ : Meaning) (xs : List Float) → passes (body_checks index domain range b) ≡ true → length (clamp_outputs range (compute μ b xs)).outputs ≤ full_list
few_by_body index domain range (exponential c0 c1 n) μ xs p =
    let counts : counts_fit domain range c0 c1 ≡ true = (and_parts (counts_fit domain range c0 c1) _ p).0 in
    let most : length c0 ≤ most_outputs = grind (arith, nat_tests) in
    let t = factor μ n (first xs) in
    omega (arith, length_clamp_all range (mixed t c0 c1), mixed_length t c0 c1)

few_outputs : (s : Set) (i : ℕ) (μ : Meaning) (xs : List Float) → i < length (functions_of s) → length (run μ (at (functions_of s) i) xs).outputs ≤ full_list
few_outputs s i μ xs h =
    let f = at (functions_of s) i in
    let p = admitted_at [] (functions_of s) i s.lawful h in
    few_by_body (length (take i (functions_of s))) f.domain f.range f.body μ (clamp_all f.domain xs) p

-- ---- what a call that passes its checks is answered

module _ (s : Set) (i : ℕ) (μ : Meaning) (xs ys : List Float) (fine : first_fault (call_checks (functions_of s) i (length xs) (length ys)) ≡ None) where
  pub answered : answer (functions_of s) μ i xs (length ys) ≡ Ok (run μ (at (functions_of s) i) xs)
  answered = ap (λ (o : Option Fault). answer_by o (run μ (at (functions_of s) i) xs)) fine

  -- the outputs have room
  pub roomy : length (run μ (at (functions_of s) i) xs).outputs ≤ length ys
  roomy =
      let p : (nat_lt i (length (functions_of s)) && ((length xs == length (at (functions_of s) i).domain) && (nat_le full_list (length ys) && true))) ≡ true = none_passes (call_checks (functions_of s) i (length xs) (length ys)) fine in
      let h : i < length (functions_of s) = grind (arith, nat_tests) in
      let k : full_list ≤ length ys = grind (arith, nat_tests) in
      omega (arith, few_outputs s i μ xs h)

-- The product of the Sizes of a grid. Assumes nothing.
use Rattle.std.proofs.Common.{◌≡◌, ℕ, suc, take, length, eqb, ◌++◌, ◌*◌, ◌<◌, ◌≤◌, min, Bool, true, false, ◌&&◌, ltb, leb, ◌⊎◌, List, [], ◌∷◌, fold, refl, sym, ap, ◌∙◌, inl, inr, mul_assoc, mul_comm, arith}
use lib.Ieee.{Float}
use Rattle.std.proofs.Math.Nat.{min-eq_left}
use Rattle.std.proofs.lemmas.Nat.{mul-le}
use Rattle.std.proofs.lemmas.List.{append_assoc, take_all}
use Rattle.std.proofs.lemmas.Bool.{and_parts, eqb-true, ltb-true, leb-true, lt-leb, cases_lt}
use Rattle.numeric.specs.Lists.{every, pairs_of}
use Rattle.numeric.specs.Whole.{cut_unsigned}
use Rattle.function.specs.Limits.{from_one_to, most_inputs, most_size, most_samples}
use Rattle.sampled.specs.Sampled.{samples_needed, sizes_fit, shape_fits, sizes_in}
use Rattle.sampled.specs.declared.type0.Type0.{Type0}

-- the Size that was multiplied first counts as last
needed_moved : (s p : ℕ) (ss : List ℕ) → s * samples_needed ss p ≡ samples_needed ss (p * s)
needed_moved s p [] = mul_comm s p
needed_moved s p (t ∷ ss) =
    sym (mul_assoc s t (samples_needed ss p)) ∙ ap (λ (n : ℕ). n * samples_needed ss p) (mul_comm s t) ∙ mul_assoc t s (samples_needed ss p) ∙ ap (λ (n : ℕ). t * n) (needed_moved s p ss)

pub size_bounds : (s : ℕ) → from_one_to most_size s ≡ true → (0 < s) × (s ≤ 65535)
size_bounds s h = let k = and_parts (ltb 0 s) (leb s most_size) h in (ltb-true 0 s k.0, leb-true s most_size k.1)

needed_more : (ss : List ℕ) (p : ℕ) → every (from_one_to most_size) ss ≡ true → p ≤ samples_needed ss p
needed_more [] p h = omega arith
needed_more (s ∷ ss) p h =
    let k = and_parts (from_one_to most_size s) (every (from_one_to most_size) ss) h in
    let pos = (size_bounds s k.0).0 in
    let rest = needed_more ss p k.1 in
    let more = mul-le 1 (samples_needed ss p) s (samples_needed ss p) (omega arith) (omega arith) in
    omega arith

-- where a grid fits, so does each part of the product
pub fit_stride : (ss : List ℕ) (p : ℕ) → sizes_fit ss p ≡ true → p ≤ 1048576
fit_stride ss p h =
    let k = and_parts (every (from_one_to most_size) ss) (leb (samples_needed ss p) most_samples) h in
    let a = needed_more ss p k.0 in
    let b = leb-true (samples_needed ss p) most_samples k.1 in
    omega arith

pub fit_one : (s : ℕ) (ss : List ℕ) (p : ℕ) → from_one_to most_size s ≡ true → sizes_fit (s ∷ ss) p ≡ sizes_fit ss (p * s)
fit_one s ss p h =
    ap (λ (b : Bool). (b && every (from_one_to most_size) ss) && leb (s * samples_needed ss p) most_samples) h
    ∙ ap (λ (n : ℕ). every (from_one_to most_size) ss && leb n most_samples) (needed_moved s p ss)

-- ---- a product that stops at the largest number fits where the product does

abbrev pub top : ℕ
top = 18446744073709551615

leb_beyond : (ss : List ℕ) (m : ℕ) → every (from_one_to most_size) ss ≡ true → most_samples < m → leb (samples_needed ss m) most_samples ≡ false
leb_beyond ss m h b = let a = needed_more ss m h in lt-leb (samples_needed ss m) most_samples (omega arith)

capped_same : (ss : List ℕ) (m : ℕ) → every (from_one_to most_size) ss ≡ true → leb (samples_needed ss (min m top)) most_samples ≡ leb (samples_needed ss m) most_samples
capped_same ss m h = go (cases_lt top m)
  where
    go : (top < m) ⊎ (m ≤ top) → leb (samples_needed ss (min m top)) most_samples ≡ leb (samples_needed ss m) most_samples
    go (inl b) = leb_beyond ss (min m top) h (omega arith) ∙ sym (leb_beyond ss m h (omega arith))
    go (inr b) = ap (λ (n : ℕ). leb (samples_needed ss n) most_samples) (min-eq_left b)

capped_fit : (ss : List ℕ) (p : ℕ) → every (from_one_to most_size) ss ≡ true → leb (fold (λ n s. min (n * s) top) p ss) most_samples ≡ leb (samples_needed ss p) most_samples
capped_fit [] p h = refl
capped_fit (s ∷ ss) p h =
    let k = and_parts (from_one_to most_size s) (every (from_one_to most_size) ss) h in
    capped_fit ss (min (p * s) top) k.1 ∙ capped_same ss (p * s) k.1 ∙ ap (λ (n : ℕ). leb n most_samples) (sym (needed_moved s p ss))

pub fit_capped : (ss : List ℕ) (p n : ℕ) → every (from_one_to most_size) ss ≡ true → n ≡ fold (λ n s. min (n * s) top) p ss → leb n most_samples ≡ sizes_fit ss p
fit_capped ss p n h e = ap (λ (k : ℕ). leb k most_samples) e ∙ capped_fit ss p h ∙ sym (ap (λ (b : Bool). b && leb (samples_needed ss p) most_samples) h)

-- ---- Sizes that are cut one by one

-- so far `done` of them all, with n of the numbers to come, of which one more is cut
pub cut_more : {n n' : ℕ} {number : Float} {numbers rest : List Float} {new all : List ℕ} (done : List ℕ) → n ≡ suc n' → numbers ≡ number ∷ rest → new ≡ done ++ (cut_unsigned 32 number ∷ [])
    → done ++ take n (sizes_in numbers) ≡ all → new ++ take n' (sizes_in rest) ≡ all
cut_more {n} {n'} {number} {numbers} {rest} {new} {all} done count first pushed inv =
    ap (λ (ns : List ℕ). ns ++ take n' (sizes_in rest)) pushed
    ∙ append_assoc done (cut_unsigned 32 number ∷ []) (take n' (sizes_in rest))
    ∙ ap (λ (ns : List ℕ). done ++ ns) (sym (ap (λ (m : ℕ). take m (sizes_in numbers)) count ∙ ap (λ (fs : List Float). take (suc n') (sizes_in fs)) first))
    ∙ inv

-- where the shape fits, they are all of them, one for each input
pub cut_whole : (t : Type0) (inputs : ℕ) (sizes : List ℕ) → shape_fits (pairs_of t.domain.now) (sizes_in t.sizes.now) (pairs_of t.encode.now) (pairs_of t.decode.now) inputs ≡ true
    → sizes ≡ take 4 (sizes_in t.sizes.now) → (sizes ≡ sizes_in t.sizes.now) × (length sizes ≡ inputs) × (length (pairs_of t.domain.now) ≡ inputs) × (length (pairs_of t.encode.now) ≡ inputs)
cut_whole t inputs sizes h e =
    let a = and_parts (from_one_to most_inputs inputs) _ h in
    let b = and_parts (eqb (length (pairs_of t.domain.now)) inputs) _ a.1 in
    let c = and_parts (eqb (length (sizes_in t.sizes.now)) inputs) _ b.1 in
    let d = and_parts (eqb (length (pairs_of t.encode.now)) inputs) _ c.1 in
    let few = leb-true inputs 4 (and_parts (ltb 0 inputs) (leb inputs most_inputs) a.0).1 in
    let same = eqb-true (length (sizes_in t.sizes.now)) inputs c.0 in
    let whole : sizes ≡ sizes_in t.sizes.now = e ∙ take_all 4 (sizes_in t.sizes.now) (omega arith) in
    (whole, ap length whole ∙ same, eqb-true (length (pairs_of t.domain.now)) inputs b.0, eqb-true (length (pairs_of t.encode.now)) inputs d.0)

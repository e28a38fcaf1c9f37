-- Pairs and the numbers that they lie in. Assumes nothing.
use Rattle.std.proofs.Common.{◌≡◌, ℕ, zero, suc, ◌-◌, ◌*◌, ◌/◌, ◌<◌, Some, List, [], ◌∷◌, map, length, get_or, sym, refl, ap, ◌∙◌, subst, arith}
use Rattle.std.proofs.lemmas.Option.{slice_get-get_or, slice_get-map}
use Rattle.std.proofs.lemmas.List.{length-map}
use Rattle.std.specs.List.{slice_get}
use Rattle.std.specs.Option.{option_map}
use Rattle.std.specs.Simd.{first_chunks}
use lib.Ieee.{Float, nan}
use Rattle.numeric.specs.Interval.{Interval}
use Rattle.numeric.specs.Lists.{flat, pairs_of}

pub pairs_flat : (ps : List Interval) → pairs_of (flat ps) ≡ ps
pairs_flat [] = refl
pairs_flat (p ∷ ps) = ap (λ (qs : List Interval). p ∷ qs) (pairs_flat ps)

pub length_flat : (ps : List Interval) → length (flat ps) ≡ 2 * length ps
length_flat [] = refl
length_flat (p ∷ ps) = let e = length_flat ps in omega arith

-- as many pairs as whole chunks of two numbers, and chunk by chunk the same
pub pairs_count : (xs : List Float) → length (pairs_of xs) ≡ length xs / 2
pairs_count [] = omega arith
pairs_count (a ∷ []) = omega arith
pairs_count (a ∷ b ∷ xs) = let e = pairs_count xs in omega arith

abbrev pub chunk_pair : List Float → Interval
chunk_pair c = (get_or c 0 nan, get_or c 1 nan)

pairs_chunks : (k : ℕ) (xs : List Float) → length xs / 2 ≡ k → map chunk_pair (first_chunks 2 k xs) ≡ pairs_of xs
pairs_chunks k [] e = let z : k ≡ 0 = omega arith in subst (λ n. map chunk_pair (first_chunks 2 n []) ≡ []) (sym z) refl
pairs_chunks k (a ∷ []) e = let z : k ≡ 0 = omega arith in subst (λ n. map chunk_pair (first_chunks 2 n (a ∷ [])) ≡ []) (sym z) refl
pairs_chunks zero (a ∷ b ∷ xs) e = absurd (omega arith)
pairs_chunks (suc k) (a ∷ b ∷ xs) e = ap (λ (ps : List Interval). (a, b) ∷ ps) (pairs_chunks k xs (omega arith))

-- a chunk of two that lies at i is the pair i; where none lies, no pair does
pub pair_of_chunk : (xs : List Float) (cs : List (List Float)) (i : ℕ) → cs ≡ first_chunks 2 (length xs / 2) xs → slice_get (pairs_of xs) i ≡ option_map chunk_pair (slice_get cs i)
pair_of_chunk xs cs i e =
    ap (λ (ps : List Interval). slice_get ps i) (sym (pairs_chunks (length xs / 2) xs refl))
    ∙ ap (λ (ds : List (List Float)). slice_get (map chunk_pair ds) i) (sym e)
    ∙ slice_get-map chunk_pair cs i

pub pair_in_chunks : (xs : List Float) (cs : List (List Float)) (i : ℕ) (d : List Float) → cs ≡ first_chunks 2 (length xs / 2) xs → i < length cs → slice_get (pairs_of xs) i ≡ Some (chunk_pair (get_or cs i d))
pair_in_chunks xs cs i d e h = pair_of_chunk xs cs i e ∙ ap (option_map chunk_pair) (slice_get-get_or cs i d h)

pub chunks_count : (xs : List Float) (cs : List (List Float)) → cs ≡ first_chunks 2 (length xs / 2) xs → length cs ≡ length (pairs_of xs)
chunks_count xs cs e = ap length e ∙ sym (length-map (first_chunks 2 (length xs / 2) xs) chunk_pair) ∙ ap length (pairs_chunks (length xs / 2) xs refl)

-- 2 * n numbers are n pairs
pub length_pairs : (xs : List Float) (n : ℕ) → length xs ≡ 2 * n → length (pairs_of xs) ≡ n
length_pairs xs n e = omega (arith, pairs_count xs)

-- and those pairs lie in the list as it is
pub flat_pairs : (xs : List Float) (n : ℕ) → length xs ≡ 2 * n → flat (pairs_of xs) ≡ xs
flat_pairs [] n e = refl
flat_pairs (a ∷ []) n e = absurd (omega arith)
flat_pairs (a ∷ b ∷ xs) n e = ap (λ (ys : List Float). a ∷ b ∷ ys) (flat_pairs xs (n - 1) (omega arith))

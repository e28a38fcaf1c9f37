-- What is stored of a sampled function, read back; and how much it answers. Assumes nothing.
use Rattle.std.proofs.Common.{◌≡◌, ℕ, suc, ◌+◌, ◌*◌, ◌^◌, ◌≤◌, Bool, true, cond, ◌&&◌, eqb, leb, List, [], ◌∷◌, ◌++◌, length, replicate, pos, Ok, Err, Result, sym, refl, ap, ◌∙◌, subst, mul_assoc, pow-suc, arith, le→leb}
use lib.Ieee.{Float, binary32, in_float}
use lib.Ieee.Back.{unsigned_back}
use Rattle.std.proofs.lemmas.Nat.{pow_pos, mul-le}
use Rattle.std.proofs.lemmas.List.{length-append, length-map, length-replicate}
use Rattle.std.proofs.lemmas.Bool.{and_from, and_parts, eqb-true, eq-eqb, cond-true}
use Rattle.fault.specs.Checks.{passes, fault}
use Rattle.fault.specs.declared.cause.Cause.TheVariants.{Size}
use Rattle.fault.specs.declared.cause.Fault.{Fault}
use Rattle.numeric.specs.Interval.{Interval, rises, clamp_all}
use Rattle.numeric.specs.Lists.{every, flat, pairs_of}
use Rattle.numeric.specs.Whole.{nearest_to, cut_unsigned}
use Rattle.numeric.proofs.Flat.{pairs_flat, length_flat}
use Rattle.units.specs.Samples.{Table, width_in}
use Rattle.function.specs.Answer.{Answer}
use Rattle.function.specs.Limits.{from_one_to, most_inputs, most_outputs, most_size, most_samples}
use Rattle.sampled.specs.declared.type0.Corner.{Corner}
use Rattle.sampled.specs.declared.type0.Type0.{Type0}
use Rattle.sampled.specs.Sampled as sampled
use Rattle.sampled.specs.Sampled.{size_numbers, sizes_in, own_numbers, entries_of, samples_needed, sizes_fit, grid_counts, grid_finite, grid_agrees, sampled_checks, evaluable, ranged, loaded_answer, sampled_answer, sampled_by, corner, corners_from, corners, corners_at, add_corners, spread, top_of, decoded}
use Rattle.sampled.proofs.Adding.{add_corners_length}
use Rattle.sampled.proofs.Decoding.{decoded_length}
use Rattle.sampled.proofs.Fitting.{size_bounds}
use Rattle.sampled.proofs.Spreading.{spread_few}

-- ---- Sizes as floats and back

size_back : (s : ℕ) → from_one_to most_size s ≡ true → cut_unsigned 32 (nearest_to (pos s)) ≡ s
unfolding in_float
size_back s h = let b = size_bounds s h in (unsigned_back binary32 32 s (le→leb s (2 ^ 24) (omega arith)) (omega arith)).1

pub sizes_back : (sizes : List ℕ) → every (from_one_to most_size) sizes ≡ true → sizes_in (size_numbers sizes) ≡ sizes
sizes_back [] h = refl
sizes_back (s ∷ ss) h =
    let k = and_parts (from_one_to most_size s) (every (from_one_to most_size) ss) h in
    ap (λ (n : ℕ). n ∷ sizes_in (size_numbers ss)) (size_back s k.0) ∙ ap (λ (ns : List ℕ). s ∷ ns) (sizes_back ss k.1)

-- ---- how many entries

pub own_length : (sizes : List ℕ) (encode decode : List Interval) → length (own_numbers sizes encode decode) ≡ length sizes + 2 * length encode + 2 * length decode
own_length sizes encode decode =
    let a = length-append (size_numbers sizes) (flat encode ++ flat decode) in
    let b = length-append (flat encode) (flat decode) in
    let n = length-map sizes (λ (s : ℕ). nearest_to (pos s)) in
    let e = length_flat encode in
    let d = length_flat decode in
    omega arith

pub entries_are : (domain range : List Interval) (sizes : List ℕ) (encode decode : List Interval) → length (flat domain ++ (flat range ++ own_numbers sizes encode decode)) ≡ entries_of domain range sizes encode decode
entries_are domain range sizes encode decode =
    let a = length-append (flat domain) (flat range ++ own_numbers sizes encode decode) in
    let b = length-append (flat range) (own_numbers sizes encode decode) in
    let d = length_flat domain in
    let r = length_flat range in
    let o = own_length sizes encode decode in
    omega arith

-- ---- what passed the checks can be computed

module _ (index : ℕ) (domain range : List Interval) (sizes : List ℕ) (encode decode : List Interval) (h : passes (sampled_checks index domain range sizes encode decode) ≡ true) where
  abbrev fit : Bool
  fit = sizes_fit sizes (length range)

  after_counts : (grid_counts domain sizes range ≡ true) × (grid_agrees domain range sizes encode decode ≡ true) × (sizes_fit sizes (length range) ≡ true)
  after_counts =
      let rise = every rises domain && every rises range in
      let a = and_parts (grid_counts domain sizes range) (grid_finite domain range encode decode && (rise && (grid_agrees domain range sizes encode decode && (fit && true)))) h in
      let b = and_parts (grid_finite domain range encode decode) (rise && (grid_agrees domain range sizes encode decode && (fit && true))) a.1 in
      let c = and_parts rise (grid_agrees domain range sizes encode decode && (fit && true)) b.1 in
      let d = and_parts (grid_agrees domain range sizes encode decode) (fit && true) c.1 in
      (a.0, d.0, (and_parts fit true d.1).0)

  pub checks_sizes : every (from_one_to most_size) sizes ≡ true
  checks_sizes = (and_parts (every (from_one_to most_size) sizes) (leb (samples_needed sizes (length range)) most_samples) after_counts.2).0

  pub checks_decode : length decode ≡ length range
  checks_decode =
      let a = and_parts (eqb (length sizes) (length domain)) (eqb (length encode) (length domain) && eqb (length decode) (length range)) after_counts.1 in
      eqb-true (length decode) (length range) (and_parts (eqb (length encode) (length domain)) (eqb (length decode) (length range)) a.1).1

  pub checks_evaluable : (n : ℕ) → n ≡ length domain → evaluable domain sizes encode decode n ≡ true
  checks_evaluable n e =
      let all = after_counts in
      let i = and_parts (from_one_to most_inputs (length domain)) (from_one_to most_inputs (length sizes) && from_one_to most_outputs (length range)) all.0 in
      let o = and_parts (from_one_to most_inputs (length sizes)) (from_one_to most_outputs (length range)) i.1 in
      let a = and_parts (eqb (length sizes) (length domain)) (eqb (length encode) (length domain) && eqb (length decode) (length range)) all.1 in
      let b = and_parts (eqb (length encode) (length domain)) (eqb (length decode) (length range)) a.1 in
      let same : length range ≡ length decode = sym checks_decode in
      subst (λ (m : ℕ). evaluable domain sizes encode decode m ≡ true) (sym e) (
      and_from _ (sizes_fit sizes (length decode)) (
      and_from (from_one_to most_inputs (length domain)) _ i.0
      (and_from (eqb (length domain) (length domain)) _ (eq-eqb (length domain) (length domain) refl)
      (and_from (eqb (length sizes) (length domain)) _ a.0
      (and_from (eqb (length encode) (length domain)) (from_one_to most_outputs (length decode)) b.0 (subst (λ (m : ℕ). from_one_to most_outputs m ≡ true) same o.1)))))
      (subst (λ (m : ℕ). sizes_fit sizes m ≡ true) same all.2))

  -- a loaded one whose parts of the number list are those numbers answers as the function that was given
  pub loaded_is : (tables : List Table) (place : ℕ) (t : Type0) (xs : List Float) → t.domain.now ≡ flat domain → t.range.now ≡ flat range → t.sizes.now ≡ size_numbers sizes → t.encode.now ≡ flat encode → t.decode.now ≡ flat decode
      → length xs ≡ length domain → loaded_answer tables place t xs ≡ ranged range (sampled_answer tables place domain sizes encode decode t.table (clamp_all domain xs))
  loaded_is tables place t xs pd pr ps pe pc n =
      let F : List Interval → List Interval → List ℕ → List Interval → List Interval → Result Answer Fault =
      λ d r s e c. cond (evaluable d s e c (length xs)) (ranged r (sampled_answer tables place d s e c t.table (clamp_all d xs))) (Err (fault Size place)) in
      let d = ap pairs_of pd ∙ pairs_flat domain in
      let r = ap pairs_of pr ∙ pairs_flat range in
      let s = ap sizes_in ps ∙ sizes_back sizes checks_sizes in
      let e = ap pairs_of pe ∙ pairs_flat encode in
      let c = ap pairs_of pc ∙ pairs_flat decode in
      ap (λ (z : List Interval). F z (pairs_of t.range.now) (sizes_in t.sizes.now) (pairs_of t.encode.now) (pairs_of t.decode.now)) d
      ∙ ap (λ (z : List Interval). F domain z (sizes_in t.sizes.now) (pairs_of t.encode.now) (pairs_of t.decode.now)) r
      ∙ ap (λ (z : List ℕ). F domain range z (pairs_of t.encode.now) (pairs_of t.decode.now)) s
      ∙ ap (λ (z : List Interval). F domain range sizes z (pairs_of t.decode.now)) e
      ∙ ap (λ (z : List Interval). F domain range sizes encode z) c
      ∙ cond-true (evaluable domain sizes encode decode (length xs)) _ _ (checks_evaluable (length xs) n)

-- ---- how many corners

from_few : (ks : List Float) (sizes : List ℕ) (stride : ℕ) (cs : List Corner)
    → (length cs ≤ length (corners_from ks sizes stride cs)) × (length (corners_from ks sizes stride cs) ≤ 2 ^ length ks * length cs)
from_few [] sizes stride cs = (omega arith, omega arith)
from_few (k ∷ ks) [] stride cs =
    let p = pow_pos (suc (length ks)) in
    let m = mul-le 1 (length cs) (2 ^ suc (length ks)) (length cs) (omega arith) (omega arith) in
    (omega arith, omega arith)
from_few (k ∷ ks) (s ∷ ss) stride cs =
    let few = spread_few k stride cs in
    let rest = from_few ks ss (stride * s) (spread k stride cs) in
    let m = mul-le (2 ^ length ks) (length (spread k stride cs)) (2 ^ length ks) (2 * length cs) (omega arith) few.1 in
    let twice : 2 ^ length ks * (2 * length cs) ≡ 2 ^ suc (length ks) * length cs = sym (mul_assoc (2 ^ length ks) 2 (length cs)) ∙ ap (λ (n : ℕ). n * length cs) (sym (pow-suc 2 (length ks))) in
    (omega arith, omega (arith, twice))

-- at least one, at most 2 to the inputs
pub corners_few : (ks : List Float) (sizes : List ℕ) (outputs : ℕ) → (1 ≤ length (corners ks sizes outputs)) × (length (corners ks sizes outputs) ≤ 2 ^ length ks)
corners_few ks sizes outputs = let f = from_few ks sizes outputs (corner sampled.one 0 ∷ []) in (f.0, omega (arith, f.1))

-- ---- what an answer holds

module _ (tables : List Table) (index : ℕ) (domain : List Interval) (sizes : List ℕ) (encode decode : List Interval) (table : ℕ) (xs : List Float) (a : Answer) where
  answered : (s : Result (List Float) ℕ) (n : ℕ) → sampled_by index (top_of (width_in tables table)) decode n s ≡ Ok a → (ys : List Float) × (s ≡ Ok ys) × (record { outputs = decoded (top_of (width_in tables table)) decode ys; steps = 1 + n; drops = 0 } ≡ a)
  answered (Ok ys) n e = (ys, refl, cc)
  answered (Err place) n e = let z : ◌≡◌ {A = ℕ} 0 1 = cc in absurd (omega arith)

  -- as many outputs as Decode pairs, a step for the function and for each corner, and no drops
  pub answer_holds : sampled_answer tables index domain sizes encode decode table xs ≡ Ok a → (length a.outputs ≡ length decode) × (a.steps ≡ 1 + length (corners_at domain sizes encode (length decode) xs)) × (a.drops ≡ 0)
  answer_holds e =
      let cs = corners_at domain sizes encode (length decode) xs in
      let start = replicate (length decode) sampled.zero in
      let p = answered (add_corners tables table cs start) (length cs) e in
      let made = p.2 in
      let many : length p.0 ≡ length decode = add_corners_length tables table cs start p.0 p.1 ∙ length-replicate (length decode) sampled.zero in
      (sym (ap (λ (x : Answer). length x.outputs) made) ∙ decoded_length (top_of (width_in tables table)) decode p.0 many, sym (ap (λ (x : Answer). x.steps) made), sym (ap (λ (x : Answer). x.drops) made))

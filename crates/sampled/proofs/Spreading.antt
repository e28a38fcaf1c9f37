-- Laws of the corners around the keys. Assumes nothing.
use Rattle.std.proofs.Common.{◌≡◌, ℕ, zero, suc, ◌+◌, ◌-◌, ◌*◌, ◌^◌, ◌<◌, ◌≤◌, true, ◌&&◌, leb, ◌⊎◌, List, [], ◌∷◌, ◌++◌, length, get_or, take, Some, Option, sym, refl, ap, ◌∙◌, subst, inl, inr, mul_assoc, mul_comm, suc-mul, pow-suc, arith}
use lib.Ieee.{Float, eq}
use lib.Ieee.Casts.{to_unsigned-lt}
use Rattle.std.specs.List.{AllByRecursion}
use Rattle.std.proofs.lemmas.Nat.{mul-le, pow_pos}
use Rattle.std.proofs.ByRecursion.{All-append, All-weaker}
use Rattle.std.proofs.lemmas.List.{append_assoc, append-nil, length-append, length-take-le, take_more}
use Rattle.std.proofs.lemmas.Bool.{and_parts, cond_both}
use Rattle.std.specs.Borrow.{Bor}
use Rattle.std.specs.declared.iter.Zip.{Zip}
use Rattle.std.specs.declared.slice.Iter.{Iter}
use Rattle.std.specs.Iterator.Adapters.{zip_first, zip_second}
use Rattle.std.specs.Slice.Iter.{iter_rest}
use Rattle.std.proofs.iter.Yields.{fronts}
use Rattle.std.proofs.lemmas.Iterator.{zips}
use Rattle.std.proofs.lemmas.Slice.Zip.{Zip-more}
use Rattle.numeric.specs.Interval.{clamp_all}
use Rattle.numeric.specs.Lists.{every}
use Rattle.function.specs.Limits.{from_one_to, most_size, most_samples}
use Rattle.sampled.specs.declared.dimension.Dimension.{Dimension}
use Rattle.sampled.specs.declared.type0.Corner.{Corner}
use Rattle.sampled.specs.Grid.{domains_of, encodes_of, sizes_of, place_of}
use Rattle.sampled.specs.Sampled.{keys, below, beyond, corner, split, spread, corners_from, corners_at, one, samples_needed, sizes_fit, OffsetsBelow}
use Rattle.sampled.specs.Sampled as sampled
use Rattle.sampled.proofs.Fitting.{fit_stride, fit_one}

-- ---- how many, and how far

split_few : (k : Float) (stride : ℕ) (c : Corner) → (1 ≤ length (split k stride c)) × (length (split k stride c) ≤ 2)
split_few k stride c = cond_both (eq (beyond k) sampled.zero) _ _ (λ (zs : List Corner). (1 ≤ length zs) × (length zs ≤ 2)) (λ _. (omega arith, omega arith)) (λ _. (omega arith, omega arith))

pub spread_few : (k : Float) (stride : ℕ) (cs : List Corner) → (length cs ≤ length (spread k stride cs)) × (length (spread k stride cs) ≤ 2 * length cs)
spread_few k stride [] = (omega arith, omega arith)
spread_few k stride (c ∷ cs) =
    let a = split_few k stride c in
    let b = spread_few k stride cs in
    let l = length-append (split k stride c) (spread k stride cs) in
    (omega arith, omega arith)

abbrev up_to : ℕ → List Corner → Type 0
up_to n cs = AllByRecursion (λ c. c.offset ≤ n) cs

-- a lower neighbour is below 2 ^ 32, a stride at most 2 ^ 20
step_bound : (low stride : ℕ) → low < 2 ^ 32 → stride ≤ 1048576 → low * stride + stride ≤ 2 ^ 53
step_bound low stride l h = let m = mul-le low stride (2 ^ 32) 1048576 (omega arith) h in omega arith

split_far : (k : Float) (stride n : ℕ) (c : Corner) → stride ≤ 1048576 → c.offset ≤ n → up_to (n + 2 ^ 53) (split k stride c)
split_far k stride n c h l =
    let b = step_bound (below k) stride (to_unsigned-lt 32 k) h in
    let up : suc (below k) * stride ≡ below k * stride + stride = suc-mul (below k) stride in
    cond_both (eq (beyond k) sampled.zero) _ _ (up_to (n + 2 ^ 53)) (λ _. (omega arith, tt)) (λ _. (omega arith, (omega arith, tt)))

spread_far : (k : Float) (stride n : ℕ) (cs : List Corner) → stride ≤ 1048576 → up_to n cs → up_to (n + 2 ^ 53) (spread k stride cs)
spread_far k stride n [] h l = tt
spread_far k stride n (c ∷ cs) h l = All-append (λ c. c.offset ≤ n + 2 ^ 53) (split k stride c) (spread k stride cs) (split_far k stride n c h l.0) (spread_far k stride n cs h l.1)

far_below : (n : ℕ) (cs : List Corner) → n < 2 ^ 63 → AllByRecursion (λ c. c.offset ≤ n) cs → OffsetsBelow (2 ^ 63) cs
far_below n cs h l = All-weaker (λ c. c.offset ≤ n) (λ c. c.offset < 2 ^ 63) (λ c k. omega arith) cs l

-- ---- a loop over corners that has come to i

spread_push : (k : Float) (stride : ℕ) (cs : List Corner) (c : Corner) → spread k stride (cs ++ (c ∷ [])) ≡ spread k stride cs ++ split k stride c
spread_push k stride [] c = append-nil (split k stride c)
spread_push k stride (x ∷ xs) c = ap (λ (zs : List Corner). split k stride x ++ zs) (spread_push k stride xs c) ∙ sym (append_assoc (split k stride x) (spread k stride xs) (split k stride c))

module _ (k : Float) (stride : ℕ) (cs : List Corner) (i : ℕ) where
  pub spread_room : i < length cs → length (spread k stride (take i cs)) + 2 ≤ 2 * length cs
  spread_room h = omega (arith, (spread_few k stride (take i cs)).1, length-take-le i cs (omega arith))

  pub spread_more : (list new : List Corner) (d : Corner) → i < length cs → new ≡ list ++ split k stride (get_or cs i d) → list ≡ spread k stride (take i cs) → new ≡ spread k stride (take (i + 1) cs)
  spread_more list new d h pushed inv =
      pushed ∙ ap (λ (zs : List Corner). zs ++ split k stride (get_or cs i d)) inv ∙ sym (ap (spread k stride) (take_more cs i d h) ∙ spread_push k stride (take i cs) (get_or cs i d))

-- ---- a loop over the dimensions and the inputs

-- what is left to do for these dimensions and inputs
abbrev pub taken_on : List Dimension → List Float → ℕ → List Corner → List Corner
taken_on ds xs stride cs = corners_from (keys (domains_of ds) (encodes_of ds) (sizes_of ds) (clamp_all (domains_of ds) xs)) (sizes_of ds) stride cs

-- `rest` and `left` are to come, with that stride, after `cs`
pub record Spreading (ds : List Dimension) (xs : List Float) (outputs : ℕ) (rest : List Dimension) (left : List Float) (stride : ℕ) (cs : List Corner) : Type 0 where
  pub same : taken_on ds xs outputs (corner one 0 ∷ []) ≡ taken_on rest left stride cs
  pub short : length rest ≤ 4
  pub few : length cs * 2 ^ length rest ≤ 16
  pub low : AllByRecursion (λ c. c.offset ≤ (4 - length rest) * 2 ^ 53) cs
  pub fit : sizes_fit (sizes_of rest) stride ≡ true

few_start : (n : ℕ) → n ≤ 4 → 1 * 2 ^ n ≤ 16
few_start zero h = omega arith
few_start (suc zero) h = omega arith
few_start (suc (suc zero)) h = omega arith
few_start (suc (suc (suc zero))) h = omega arith
few_start (suc (suc (suc (suc zero)))) h = omega arith
few_start (suc (suc (suc (suc (suc n))))) h = absurd (omega arith)

pub spreading_none : (ds : List Dimension) (xs : List Float) (outputs : ℕ) → length ds ≤ 4 → sizes_fit (sizes_of ds) outputs ≡ true → Spreading ds xs outputs ds xs outputs (corner one 0 ∷ [])
spreading_none ds xs outputs h f = record { same = refl; short = h; few = few_start (length ds) h; low = (omega arith, tt); fit = f }

module _ {ds : List Dimension} {xs : List Float} {outputs : ℕ} {stride : ℕ} {cs : List Corner} where
  pub spreading_at : {rest rest' : List Dimension} {left left' : List Float} → rest ≡ rest' → left ≡ left' → Spreading ds xs outputs rest left stride cs → Spreading ds xs outputs rest' left' stride cs
  spreading_at {rest} {rest'} {left} {left'} e f s = subst (λ (r : List Dimension). Spreading ds xs outputs r left' stride cs) e (subst (λ (l : List Float). Spreading ds xs outputs rest l stride cs) f s)

  -- a turn of the loop
  pub spreading_turn : (s t : Zip (Iter Dimension) (Iter Float)) {r : Option (Bor Dimension × Bor Float)} {p : Bor Dimension × Bor Float} → r ≡ Some p → zips fronts fronts s r t → Spreading ds xs outputs (iter_rest (zip_first s)) (iter_rest (zip_second s)) stride cs
      → Spreading ds xs outputs (p.0.now ∷ iter_rest (zip_first t)) (p.1.now ∷ iter_rest (zip_second t)) stride cs
  spreading_turn s t {r} {p} e h inv = let z = Zip-more s t r p e h in spreading_at z.0 z.1 inv

pub spreading_below : {ds : List Dimension} {xs : List Float} {outputs : ℕ} {rest : List Dimension} {left : List Float} {stride : ℕ} {cs : List Corner} → Spreading ds xs outputs rest left stride cs → OffsetsBelow (2 ^ 63) cs
spreading_below {rest = rest} {cs = cs} s = far_below ((4 - length rest) * 2 ^ 53) cs (omega arith) s.low

pub spreading_stride : {ds : List Dimension} {xs : List Float} {outputs : ℕ} {rest : List Dimension} {left : List Float} {stride : ℕ} {cs : List Corner} → Spreading ds xs outputs rest left stride cs → stride ≤ 1048576
spreading_stride {rest = rest} {stride = stride} s = fit_stride (sizes_of rest) stride s.fit

module _ {ds : List Dimension} {xs : List Float} {outputs : ℕ} {d : Dimension} {rest : List Dimension} {x : Float} {left : List Float} {stride : ℕ} {cs : List Corner} (s : Spreading ds xs outputs (d ∷ rest) (x ∷ left) stride cs) where
  pub spreading_room : 2 * length cs ≤ 16
  spreading_room =
      let twice = pow-suc 2 (length rest) in
      let some = pow_pos (length rest) in
      let all = mul-le (length cs) 2 (length cs) (2 ^ suc (length rest)) (omega arith) (omega arith) in
      omega (arith, s.few)

  next_fit : (from_one_to most_size d.size ≡ true) × (sizes_fit (sizes_of rest) (stride * d.size) ≡ true)
  next_fit =
      let every_one = (and_parts (from_one_to most_size d.size && every (from_one_to most_size) (sizes_of rest)) (leb (samples_needed (d.size ∷ sizes_of rest) stride) most_samples) s.fit).0 in
      let is = (and_parts (from_one_to most_size d.size) (every (from_one_to most_size) (sizes_of rest)) every_one).0 in
      (is, sym (fit_one d.size (sizes_of rest) stride is) ∙ s.fit)

  pub spreading_product : stride * d.size ≤ 1048576
  spreading_product = fit_stride (sizes_of rest) (stride * d.size) next_fit.1

  pub spreading_more : (new : List Corner) → new ≡ spread (place_of d x) stride cs → Spreading ds xs outputs rest left (stride * d.size) new
  spreading_more new e =
      let twice = pow-suc 2 (length rest) in
      let some = (spread_few (place_of d x) stride cs).1 in
      let m = mul-le (length new) (2 ^ length rest) (2 * length cs) (2 ^ length rest) (omega (arith, ap length e)) (omega arith) in
      let double : 2 * length cs * 2 ^ length rest ≡ length cs * 2 ^ suc (length rest) = ap (λ (n : ℕ). n * 2 ^ length rest) (mul_comm 2 (length cs)) ∙ mul_assoc (length cs) 2 (2 ^ length rest) ∙ ap (λ (n : ℕ). length cs * n) (mul_comm 2 (2 ^ length rest) ∙ sym twice) in
      let far : (4 - length (d ∷ rest)) * 2 ^ 53 + 2 ^ 53 ≡ (4 - length rest) * 2 ^ 53 = omega (arith, s.short) in
      record {
        same = s.same ∙ ap (taken_on rest left (stride * d.size)) (sym e);
        short = omega (arith, s.short);
        few = omega (arith, m, double, s.few);
        low = subst (AllByRecursion (λ c. c.offset ≤ (4 - length rest) * 2 ^ 53)) (sym e) (subst (λ (n : ℕ). AllByRecursion (λ c. c.offset ≤ n) (spread (place_of d x) stride cs)) far (spread_far (place_of d x) stride ((4 - length (d ∷ rest)) * 2 ^ 53) cs (spreading_stride s) s.low));
        fit = next_fit.1;
      }

taken_all : (ds : List Dimension) (xs : List Float) (stride : ℕ) (cs : List Corner) → (ds ≡ []) ⊎ (xs ≡ []) → taken_on ds xs stride cs ≡ cs
taken_all [] xs stride cs h = refl
taken_all (d ∷ ds) [] stride cs h = refl
taken_all (d ∷ ds) (x ∷ xs) stride cs (inl e) = cc
taken_all (d ∷ ds) (x ∷ xs) stride cs (inr e) = cc

pub spreading_all : {ds : List Dimension} {xs : List Float} {outputs : ℕ} {rest : List Dimension} {left : List Float} {stride : ℕ} {cs : List Corner} → (rest ≡ []) ⊎ (left ≡ []) → Spreading ds xs outputs rest left stride cs
    → cs ≡ corners_at (domains_of ds) (sizes_of ds) (encodes_of ds) outputs (clamp_all (domains_of ds) xs)
spreading_all {rest = rest} {left = left} {stride = stride} {cs = cs} h s = sym (s.same ∙ taken_all rest left stride cs h)

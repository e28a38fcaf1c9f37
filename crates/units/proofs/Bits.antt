-- The bits of bytes: where a sample's bits lie, and the number that they spell. Assumes nothing.
use Rattle.std.proofs.Common.{◌≡◌, ℕ, zero, suc, ◌+◌, ◌-◌, ◌*◌, ◌/◌, ◌%◌, ◌^◌, ◌<◌, ◌≤◌, List, [], ◌∷◌, ◌++◌, length, get_or, take, drop, Some, None, w16, w32, sym, refl, ap, ◌∙◌, subst, lt_of_lt_of_le, mul_assoc, mul_comm, add-mul, mul-zero, mul_right_comm, mul-div_cancel, arith, pow_mono}
use native.Mathlib.Nat.{mul-add-div_right, mul-div-mul_right}
use lib.Bits.{bit_and}
use Rattle.std.proofs.lemmas.Nat.{pow-add, shr-shr, mod-pow-add, div-add-mod', mod_below, mul-le, one_shl, and_mask}
use Rattle.std.proofs.Math.Seq.{take-nil, drop-nil}
use Rattle.std.proofs.lemmas.List.Elements.{All-nil, All-cons, All-head, All-tail, All-append, All-take, All-drop, All-map}
use Rattle.std.proofs.lemmas.List.{length-append, length-take, drop-drop, drop_more, drop-append-le, take-append-le}
use Rattle.std.proofs.lemmas.List.FromFn.{length-map-range_with_len, get_or-map-range_with_len}
use Rattle.std.proofs.lemmas.Option.{slice_get-get_or, slice_get_past}
use Rattle.std.specs.List.{slice_get, range_with_len, All}
use Rattle.std.specs.Int.{from_be_bytes}
use Rattle.std.specs.Simd.{first_chunks}
use Rattle.units.specs.Packed.{low_bits, bits_in, number_of, sample_from, packed_samples}
use Rattle.units.specs.Samples.{bits_of}
use Rattle.units.specs.declared.samples.Width.{Width}
use Rattle.units.specs.declared.samples.Width.TheVariants.{One, Two, Four, Eight, Sixteen, TwentyFour, ThirtyTwo}

-- ---- the bits of one number

length_low : (n x : ℕ) → length (low_bits n x) ≡ n
length_low zero x = refl
length_low (suc n) x = ap suc (length_low n x)

drop_low : (k n x : ℕ) → k ≤ n → drop k (low_bits n x) ≡ low_bits (n - k) x
drop_low zero n x h = let e : n ≡ n - 0 = omega arith in ap (λ (m : ℕ). low_bits m x) e
drop_low (suc k) zero x h = absurd (omega arith)
drop_low (suc k) (suc n) x h = let e : n - k ≡ suc n - suc k = omega arith in drop_low k n x (omega arith) ∙ ap (λ (m : ℕ). low_bits m x) e

take_low : (w n x : ℕ) → w ≤ n → take w (low_bits n x) ≡ low_bits w (x / 2 ^ (n - w))
take_low zero n x h = refl
take_low (suc w) zero x h = absurd (omega arith)
take_low (suc w) (suc n) x h =
    let less : n - w ≡ suc n - suc w = omega arith in
    let whole : n - w + w ≡ n = omega arith in
    let first : x / 2 ^ n ≡ x / 2 ^ (n - w) / 2 ^ w = sym (shr-shr x (n - w) w ∙ ap (λ (k : ℕ). x / 2 ^ k) whole) in
    ap (λ (y : ℕ). y % 2 ∷ take w (low_bits n x)) first
    ∙ ap (λ (l : List ℕ). x / 2 ^ (n - w) / 2 ^ w % 2 ∷ l) (take_low w n x (omega arith))
    ∙ ap (λ (k : ℕ). low_bits (suc w) (x / 2 ^ k)) less

number_low : (w x : ℕ) → number_of (low_bits w x) ≡ x % 2 ^ w
number_low zero x = let e = mod_below x 1 (omega arith) in omega arith
number_low (suc w) x =
    let next : 1 + w ≡ suc w = omega arith in
    ap (λ (k : ℕ). x / 2 ^ w % 2 * 2 ^ k + number_of (low_bits w x)) (length_low w x)
    ∙ ap (λ (r : ℕ). x / 2 ^ w % 2 * 2 ^ w + r) (number_low w x)
    ∙ sym (mod-pow-add x 1 w)
    ∙ ap (λ (k : ℕ). x % 2 ^ k) next

-- ---- the bits of many bytes

pub drop_bits : (q : ℕ) (bs : List ℕ) → drop (q * 8) (bits_in bs) ≡ bits_in (drop q bs)
drop_bits zero bs = refl
drop_bits (suc q) [] = drop-nil (suc q * 8)
drop_bits (suc q) (b ∷ bs) =
    let e : suc q * 8 ≡ suc (suc (suc (suc (suc (suc (suc (suc (q * 8)))))))) = omega arith in
    ap (λ (k : ℕ). drop k (bits_in (b ∷ bs))) e ∙ drop_bits q bs

pub take_bits : (n : ℕ) (bs : List ℕ) → take (n * 8) (bits_in bs) ≡ bits_in (take n bs)
take_bits zero bs = refl
take_bits (suc n) [] = take-nil (suc n * 8)
take_bits (suc n) (b ∷ bs) =
    let e : suc n * 8 ≡ suc (suc (suc (suc (suc (suc (suc (suc (n * 8)))))))) = omega arith in
    ap (λ (k : ℕ). take k (bits_in (b ∷ bs))) e ∙ ap (λ (l : List ℕ). low_bits 8 b ++ l) (take_bits n bs)

length_bits : (bs : List ℕ) → length (bits_in bs) ≡ 8 * length bs
length_bits [] = refl
length_bits (b ∷ bs) = let e = length_bits bs in omega arith

bits_append : (xs ys : List ℕ) → bits_in (xs ++ ys) ≡ bits_in xs ++ bits_in ys
bits_append [] ys = refl
bits_append (x ∷ xs) ys = ap (λ (l : List ℕ). low_bits 8 x ++ l) (bits_append xs ys)

-- ---- numbers

number_append : (xs ys : List ℕ) → number_of (xs ++ ys) ≡ number_of xs * 2 ^ length ys + number_of ys
number_append [] ys = omega arith
number_append (x ∷ xs) ys =
    let e : x * 2 ^ length (xs ++ ys) ≡ x * 2 ^ length xs * 2 ^ length ys =
    ap (λ (k : ℕ). x * 2 ^ k) (length-append xs ys) ∙ ap (λ (p : ℕ). x * p) (pow-add 2 (length xs) (length ys)) ∙ sym (mul_assoc x (2 ^ length xs) (2 ^ length ys)) in
    let r = number_append xs ys in
    let s = add-mul (x * 2 ^ length xs) (number_of xs) (2 ^ length ys) in
    omega arith

-- one byte more
pub number_more : (bs : List ℕ) (b : ℕ) → b < 256 → number_of (bits_in (bs ++ b ∷ [])) ≡ number_of (bits_in bs) * 256 + b
number_more bs b h =
    let low : number_of (low_bits 8 b) ≡ b % 256 = number_low 8 b in
    let own : b % 256 ≡ b = omega arith in
    ap number_of (bits_append bs (b ∷ [])) ∙ number_append (bits_in bs) (low_bits 8 b) ∙ ap (λ (k : ℕ). number_of (bits_in bs) * 256 + k) (low ∙ own)

number_lt : (xs : List ℕ) → All (λ b. b < 2) xs → number_of xs < 2 ^ length xs
number_lt [] h = omega arith
number_lt (x ∷ xs) h =
    let rest = number_lt xs (All-tail (λ b. b < 2) x xs h) in
    let first : x * 2 ^ length xs ≤ 1 * 2 ^ length xs = mul-le x (2 ^ length xs) 1 (2 ^ length xs) (omega (arith, All-head (λ b. b < 2) x xs h)) (omega arith) in
    let next : 1 + length xs ≡ suc (length xs) = omega arith in
    let twice : 2 * 2 ^ length xs ≡ 2 ^ suc (length xs) = sym (pow-add 2 1 (length xs)) ∙ ap (λ (k : ℕ). 2 ^ k) next in
    omega arith

low_below : (n x : ℕ) → All (λ b. b < 2) (low_bits n x)
low_below zero x = All-nil (λ b. b < 2)
low_below (suc n) x = All-cons (λ b. b < 2) (x / 2 ^ n % 2) (low_bits n x) (mod_below (x / 2 ^ n) 2 (omega arith)) (low_below n x)

bits_below : (bs : List ℕ) → All (λ b. b < 2) (bits_in bs)
bits_below [] = All-nil (λ b. b < 2)
bits_below (b ∷ bs) = All-append (λ k. k < 2) (low_bits 8 b) (bits_in bs) (low_below 8 b) (bits_below bs)

pub number_bits_lt : (bs : List ℕ) → number_of (bits_in bs) < 2 ^ (8 * length bs)
number_bits_lt bs = subst (λ (k : ℕ). number_of (bits_in bs) < 2 ^ k) (length_bits bs) (number_lt (bits_in bs) (bits_below bs))

pub sample_lt : (w i : ℕ) (bs : List ℕ) → sample_from w (bits_in bs) i < 2 ^ w
sample_lt w i bs =
    let own = take w (drop (i * w) (bits_in bs)) in
    let below = number_lt own (All-take (λ b. b < 2) w (drop (i * w) (bits_in bs)) (All-drop (λ b. b < 2) (i * w) (bits_in bs) (bits_below bs))) in
    let short : length own ≤ w = omega (arith, length-take w (drop (i * w) (bits_in bs))) in
    lt_of_lt_of_le below (pow_mono short)

-- ---- the sample at an index

right_pos : (a b : ℕ) → a * b ≡ 8 → 0 < b
right_pos a zero e = absurd (omega (arith, mul-zero a))
right_pos a (suc b) e = omega arith

pub byte_room : (w per i : ℕ) → w * per ≡ 8 → w * (i % per + 1) ≤ 8
byte_room w per i e = let below = mod_below i per (right_pos w per e) in omega (arith, mul-le w (i % per + 1) w per (omega arith) (omega arith))

-- below 8 bits it lies in one byte, of which `per` make a whole one
pub in_byte : (w per : ℕ) (bs : List ℕ) (i d : ℕ) → w * per ≡ 8 → i / per < length bs
    → sample_from w (bits_in bs) i ≡ get_or bs (i / per) d / 2 ^ (8 - w * (i % per + 1)) % 2 ^ w
in_byte w per bs i d e h =
    let q = i / per in
    let r = i % per in
    let b = get_or bs q d in
    let room : w * (r + 1) ≤ 8 = byte_room w per i e in
    let step : w * (r + 1) ≡ r * w + w = omega (arith, mul_comm w (r + 1), add-mul r 1 w) in
    let place : i * w ≡ q * 8 + r * w =
    ap (λ (k : ℕ). k * w) (sym (div-add-mod' i per)) ∙ add-mul (q * per) r w ∙ ap (λ (k : ℕ). k + r * w) (mul_assoc q per w ∙ ap (λ (k : ℕ). q * k) (mul_comm per w ∙ e)) in
    let bytes : drop (i * w) (bits_in bs) ≡ drop (r * w) (low_bits 8 b ++ bits_in (drop (q + 1) bs)) =
    ap (λ (k : ℕ). drop k (bits_in bs)) place ∙ sym (drop-drop (r * w) (q * 8) (bits_in bs)) ∙ ap (drop (r * w)) (drop_bits q bs ∙ ap bits_in (drop_more bs q d h)) in
    let first : r * w ≤ length (low_bits 8 b) = omega (arith, length_low 8 b) in
    let front : drop (r * w) (low_bits 8 b) ≡ low_bits (8 - r * w) b = drop_low (r * w) 8 b (omega arith) in
    let long : w ≤ length (drop (r * w) (low_bits 8 b)) = omega (arith, ap length front, length_low (8 - r * w) b) in
    let shift : 8 - r * w - w ≡ 8 - w * (r + 1) = omega arith in
    ap (λ (l : List ℕ). number_of (take w l)) (bytes ∙ drop-append-le (r * w) (low_bits 8 b) (bits_in (drop (q + 1) bs)) first)
    ∙ ap number_of (take-append-le w (drop (r * w) (low_bits 8 b)) (bits_in (drop (q + 1) bs)) long ∙ ap (take w) front ∙ take_low w (8 - r * w) b (omega arith))
    ∙ number_low w (b / 2 ^ (8 - r * w - w))
    ∙ ap (λ (k : ℕ). b / 2 ^ k % 2 ^ w) shift

-- from 8 bits on it is whole bytes
pub of_bytes : (n : ℕ) (bs : List ℕ) (i : ℕ) → sample_from (n * 8) (bits_in bs) i ≡ number_of (bits_in (take n (drop (i * n) bs)))
of_bytes n bs i =
    ap (λ (k : ℕ). number_of (take (n * 8) (drop k (bits_in bs)))) (sym (mul_assoc i n 8))
    ∙ ap (λ (l : List ℕ). number_of (take (n * 8) l)) (drop_bits (i * n) bs)
    ∙ ap number_of (take_bits n (drop (i * n) bs))

-- ---- the samples as a list

pub length_samples : (w : ℕ) (bs : List ℕ) → length (packed_samples w bs) ≡ 8 * length bs / w
length_samples w bs = length-map-range_with_len (sample_from w (bits_in bs)) 0 (8 * length bs / w)

pub nth_sample : (w : ℕ) (bs : List ℕ) (i v : ℕ) → i < 8 * length bs / w → v ≡ sample_from w (bits_in bs) i → Some v ≡ slice_get (packed_samples w bs) i
nth_sample w bs i v h e =
    let within : i < length (packed_samples w bs) = omega (arith, length_samples w bs) in
    ap (λ (k : ℕ). Some k) (e ∙ sym (get_or-map-range_with_len (sample_from w (bits_in bs)) 0 (8 * length bs / w) i i 0 h (omega arith))) ∙ sym (slice_get-get_or (packed_samples w bs) i 0 within)

pub no_sample : (w : ℕ) (bs : List ℕ) (i : ℕ) → 8 * length bs / w ≤ i → None ≡ slice_get (packed_samples w bs) i
no_sample w bs i h = sym (slice_get_past (packed_samples w bs) i (omega (arith, length_samples w bs)))

pub samples_below : (w : ℕ) (bs : List ℕ) → All (λ n. n < 2 ^ w) (packed_samples w bs)
samples_below w bs = All-map (λ n. n < 2 ^ w) (sample_from w (bits_in bs)) (range_with_len 0 (8 * length bs / w)) (λ k d h. sample_lt w _ bs)

-- how many: per byte, and by whole bytes
pub count_in_bytes : (w per n : ℕ) → w * per ≡ 8 → 8 * n / w ≡ n * per
count_in_bytes w per n e =
    let left : 0 < w = right_pos per w (mul_comm per w ∙ e) in
    let whole : 8 * n ≡ n * per * w = mul_comm 8 n ∙ ap (λ (k : ℕ). n * k) (sym e ∙ mul_comm w per) ∙ sym (mul_assoc n per w) in
    ap (λ (k : ℕ). k / w) whole ∙ mul-div_cancel (n * per) left

pub count_of_bytes : (k n : ℕ) → 8 * n / (k * 8) ≡ n / k
count_of_bytes k n = ap (λ (m : ℕ). m / (k * 8)) (mul_comm 8 n) ∙ mul-div-mul_right n k (omega arith)

pub some_bits : (w : Width) → (0 < bits_of w) × (bits_of w ≤ 32)
some_bits One = (omega arith, omega arith)
some_bits Two = (omega arith, omega arith)
some_bits Four = (omega arith, omega arith)
some_bits Eight = (omega arith, omega arith)
some_bits Sixteen = (omega arith, omega arith)
some_bits TwentyFour = (omega arith, omega arith)
some_bits ThirtyTwo = (omega arith, omega arith)

-- 8 * n / b in two parts, neither of which is more than n can be
pub count_split : (n b : ℕ) → 0 < b → 8 * n / b ≡ n / b * 8 + n % b * 8 / b
count_split n b h =
    let parts : 8 * n ≡ n / b * 8 * b + n % b * 8 =
    mul_comm 8 n ∙ ap (λ (k : ℕ). k * 8) (sym (div-add-mod' n b)) ∙ add-mul (n / b * b) (n % b) 8 ∙ ap (λ (k : ℕ). k + n % b * 8) (mul_right_comm (n / b) b 8) in
    ap (λ (k : ℕ). k / b) parts ∙ mul-add-div_right h (n / b * 8) (n % b * 8)

-- ---- what the code reads

pub no_byte : (w per : ℕ) (bs : List ℕ) (i : ℕ) → w * per ≡ 8 → length bs ≤ i / per → None ≡ slice_get (packed_samples w bs) i
no_byte w per bs i e h =
    let many = count_in_bytes w per (length bs) e in
    let back = mul-le (length bs) per (i / per) per h (omega arith) in
    no_sample w bs i (omega (arith, div-add-mod' i per))

pub mask_is : (k : ℕ) → k < 32 → 1 * 2 ^ k % 2 ^ 32 - 1 ≡ 2 ^ k - 1
mask_is k h = ap (λ (m : ℕ). m - 1) (one_shl k 32 h)

pub some_byte : (w per : ℕ) (bs : List ℕ) (i d x : ℕ) → w * per ≡ 8 → w < 32 → i / per < length bs → x ≡ get_or bs (i / per) d
    → Some (bit_and (x / 2 ^ (8 - w * (i % per + 1))) (1 * 2 ^ w % 2 ^ 32 - 1)) ≡ slice_get (packed_samples w bs) i
some_byte w per bs i d x e k h p =
    let many = count_in_bytes w per (length bs) e in
    let below = mod_below i per (right_pos w per e) in
    let front = mul-le (i / per + 1) per (length bs) per (omega arith) (omega arith) in
    let split = add-mul (i / per) 1 per in
    let shift = 8 - w * (i % per + 1) in
    nth_sample w bs i _ (omega (arith, div-add-mod' i per)) (
    ap (λ (m : ℕ). bit_and (x / 2 ^ shift) m) (mask_is w k) ∙ and_mask (x / 2 ^ shift) w ∙ ap (λ (b : ℕ). b / 2 ^ shift % 2 ^ w) p ∙ sym (in_byte w per bs i d e h))

pub no_bytes : (n : ℕ) (bs : List ℕ) (i : ℕ) → length bs / n ≤ i → None ≡ slice_get (packed_samples (n * 8) bs) i
no_bytes n bs i h = no_sample (n * 8) bs i (omega (arith, count_of_bytes n (length bs)))

pub some_bytes : (n : ℕ) (bs : List ℕ) (i v : ℕ) → i < length bs / n → v ≡ number_of (bits_in (take n (drop (i * n) bs))) → Some v ≡ slice_get (packed_samples (n * 8) bs) i
some_bytes n bs i v h e = nth_sample (n * 8) bs i v (omega (arith, count_of_bytes n (length bs))) (e ∙ sym (of_bytes n bs i))

-- ---- samples of whole bytes, chunk by chunk

pub length_chunks : (n k : ℕ) (bs : List ℕ) → length (first_chunks n k bs) ≡ k
length_chunks n zero bs = refl
length_chunks n (suc k) bs = ap suc (length_chunks n k (drop n bs))

pub chunk_at : (n k i : ℕ) (bs d : List ℕ) → i < k → get_or (first_chunks n k bs) i d ≡ take n (drop (i * n) bs)
chunk_at n zero i bs d h = absurd (omega arith)
chunk_at n (suc k) zero bs d h = let e : 0 ≡ 0 * n = omega arith in ap (λ (m : ℕ). take n (drop m bs)) e
chunk_at n (suc k) (suc i) bs d h =
    let place : n + i * n ≡ suc i * n = omega (arith, add-mul i 1 n) in
    chunk_at n k i (drop n bs) d (omega arith) ∙ ap (take n) (drop-drop (i * n) n bs ∙ ap (λ (m : ℕ). drop m bs) place)

pub one_byte : (a : ℕ) → a < 256 → number_of (bits_in (a ∷ [])) ≡ a
one_byte a h = let e = number_more [] a h in omega arith

pub two_bytes : (a b : ℕ) → a < 256 → b < 256 → number_of (bits_in (a ∷ b ∷ [])) ≡ a * 256 + b
two_bytes a b h k = let e = number_more (a ∷ []) b k in omega (arith, one_byte a h)

pub three_bytes : (a b c : ℕ) → a < 256 → b < 256 → c < 256 → number_of (bits_in (a ∷ b ∷ c ∷ [])) ≡ (a * 256 + b) * 256 + c
three_bytes a b c h k l = let e = number_more (a ∷ b ∷ []) c l in omega (arith, two_bytes a b h k)

pub four_bytes : (a b c d : ℕ) → a < 256 → b < 256 → c < 256 → d < 256 → number_of (bits_in (a ∷ b ∷ c ∷ d ∷ [])) ≡ ((a * 256 + b) * 256 + c) * 256 + d
four_bytes a b c d h k l m = let e = number_more (a ∷ b ∷ c ∷ []) d m in omega (arith, three_bytes a b c h k l)

pub of_three : (bs : List ℕ) → length bs ≡ 3 → ((i : ℕ) → get_or bs i 0 < 256) → get_or bs 0 0 * 65536 + get_or bs 1 0 * 256 + get_or bs 2 0 ≡ number_of (bits_in bs)
of_three [] l f = absurd (omega arith)
of_three (a ∷ []) l f = absurd (omega arith)
of_three (a ∷ b ∷ []) l f = absurd (omega arith)
of_three (a ∷ b ∷ c ∷ []) l f = omega (arith, three_bytes a b c (f 0) (f 1) (f 2))
of_three (a ∷ b ∷ c ∷ d ∷ r) l f = absurd (omega arith)

pub of_two : (bs : List ℕ) → length bs ≡ 2 → ((i : ℕ) → get_or bs i 0 < 256) → from_be_bytes w16 bs ≡ number_of (bits_in bs)
of_two [] l f = absurd (omega arith)
of_two (a ∷ []) l f = absurd (omega arith)
of_two (a ∷ b ∷ []) l f = omega (arith, two_bytes a b (f 0) (f 1))
of_two (a ∷ b ∷ c ∷ r) l f = absurd (omega arith)

pub of_four : (bs : List ℕ) → length bs ≡ 4 → ((i : ℕ) → get_or bs i 0 < 256) → from_be_bytes w32 bs ≡ number_of (bits_in bs)
of_four [] l f = absurd (omega arith)
of_four (a ∷ []) l f = absurd (omega arith)
of_four (a ∷ b ∷ []) l f = absurd (omega arith)
of_four (a ∷ b ∷ c ∷ []) l f = absurd (omega arith)
of_four (a ∷ b ∷ c ∷ d ∷ []) l f = omega (arith, four_bytes a b c d (f 0) (f 1) (f 2) (f 3))
of_four (a ∷ b ∷ c ∷ d ∷ x ∷ r) l f = absurd (omega arith)

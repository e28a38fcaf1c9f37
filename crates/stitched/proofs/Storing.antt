-- The numbers of a stitched function in the number list. Assumes nothing.
use Rattle.std.proofs.Common.{◌≡◌, ℕ, zero, suc, ◌+◌, ◌*◌, ◌^◌, ◌<◌, ◌≤◌, true, ltb, List, [], ◌∷◌, ◌++◌, map, length, get_or, take, drop, refl, ap, ◌∙◌, arith, le→leb}
use lib.Ieee.{Float, nan, binary32, in_float, to_unsigned}
use lib.Ieee.Back.{unsigned_back}
use Rattle.std.proofs.lemmas.List.{append_assoc, length-append, length-map}
use Rattle.std.proofs.lemmas.Bool.{and_parts, ltb-true}
use Rattle.numeric.specs.Interval.{Interval}
use Rattle.numeric.specs.Lists.{every, flat, Lays}
use Rattle.numeric.specs.Whole.{cut_unsigned}
use Rattle.numeric.proofs.Flat.{length_flat}
use Rattle.numeric.proofs.Laying.{fits_from, put_whole}
use Rattle.numeric.proofs.Appending.{laid_first, laid_next, laid_is}
use Rattle.stitched.specs.Stitched.{index_number, own_numbers, given_needs, given_numbers}
use Rattle.stitched.specs.declared.earlier.Known.{Known}
use Rattle.stitched.specs.declared.type3.Stitched.{Stitched}

-- an index below 2 ^ 24 comes back as it was
pub index_back : (p : ℕ) → p < 2 ^ 24 → cut_unsigned 32 (index_number p) ≡ p
unfolding in_float
index_back p h = (unsigned_back binary32 32 p (le→leb p (2 ^ 24) (omega arith)) (omega arith)).1

pub indices_back : (parts : List ℕ) → every (λ (p : ℕ). ltb p (2 ^ 24)) parts ≡ true → map (cut_unsigned 32) (map index_number parts) ≡ parts
indices_back [] e = refl
indices_back (p ∷ ps) e =
    let k = and_parts (ltb p (2 ^ 24)) (every (λ (q : ℕ). ltb q (2 ^ 24)) ps) e in
    λ j. index_back p (ltb-true p (2 ^ 24) k.0) j ∷ indices_back ps k.1 j

-- the part in a stretch, from the list of all
pub part_at : (numbers : List Float) (i : ℕ) → cut_unsigned 32 (get_or numbers i nan) ≡ get_or (map (cut_unsigned 32) numbers) i 0
unfolding to_unsigned
part_at [] i = refl
part_at (x ∷ xs) zero = refl
part_at (x ∷ xs) (suc i) = part_at xs i

pub part_back : (parts : List ℕ) (i : ℕ) → every (λ (p : ℕ). ltb p (2 ^ 24)) parts ≡ true → cut_unsigned 32 (get_or (map index_number parts) i nan) ≡ get_or parts i 0
part_back parts i e = part_at (map index_number parts) i ∙ ap (λ (ps : List ℕ). get_or ps i 0) (indices_back parts e)

-- an entry for each part and each bound, and two for each Encode pair
pub own_length : (parts : List ℕ) (bounds : List Float) (encode : List Interval) → length (own_numbers parts bounds encode) ≡ length parts + (length bounds + 2 * length encode)
own_length parts bounds encode =
    length-append (map index_number parts) (bounds ++ flat encode)
    ∙ omega (arith, length-map parts index_number, length-append bounds (flat encode), length_flat encode)

-- and two for each Domain and each Range pair
pub given_length : (earlier : List Known) (s : Stitched) → (given_needs earlier s).numbers ≡ 2 * length s.domain.now + 2 * length s.range.now + length (given_numbers s)
given_length earlier s =
    omega (arith, length-append (flat s.domain.now) (flat s.range.now ++ given_numbers s), length_flat s.domain.now, length-append (flat s.range.now) (given_numbers s), length_flat s.range.now)

-- the parts, the bounds and the Encode pairs, one behind the other
pub own_laid : (s : Stitched) {list : List Float} {at : ℕ} {one : List Float} {p : ℕ} {two : List Float} {q : ℕ} {new : List Float} {r : ℕ} → at + length (given_numbers s) ≤ length list
    → Lays list at (map index_number s.parts.now) one p → Lays one p s.bounds.now two q → Lays two q (flat s.encode.now) new r → Lays list at (given_numbers s) new r
own_laid s {list} {at} {one} {p} {two} {q} {new} {r} h a b c =
    let xs = map index_number s.parts.now in
    let bounds = s.bounds.now in
    let pairs = flat s.encode.now in
    let own = given_numbers s in
    let n = length-append xs (bounds ++ pairs) in
    let m = length-append bounds pairs in
    let k = length-append xs bounds in
    let u = laid_first list at xs one p (omega arith) a in
    let v = laid_next list at xs one p bounds two q (omega arith) u b in
    let w = laid_next list at (xs ++ bounds) two q pairs new r (omega arith) v c in
    let t = length-append (xs ++ bounds) pairs in
    let same = append_assoc xs bounds pairs in
    put_whole list at own new r (fits_from list at own (omega arith) (omega arith)) (w.0 ∙ ap (λ (zs : List Float). at + length zs) same)
    (w.1 ∙ laid_is list at ((xs ++ bounds) ++ pairs) (omega arith) ∙ ap (λ (zs : List Float). take at list ++ (zs ++ drop (at + length zs) list)) same)

-- Numbers written into a longer list. Assumes nothing.
use Rattle.std.proofs.Common.{◌≡◌, ℕ, ◌+◌, ◌-◌, ◌*◌, ◌<◌, ◌≤◌, Bool, true, false, ◌&&◌, leb, List, [], ◌∷◌, ◌++◌, map, length, get_or, take, drop, set, sym, refl, ap, ◌∙◌, subst, arith}
use lib.Ieee.{Float}
use borrow.Rule.Slice.PartMut.{put_mid}
use Rattle.std.proofs.lemmas.List.{append_assoc, take-append-drop, drop-drop, set_at, drop_more, drop_all, take_more, take_all, length-append, length-take-le, take_at, drop_at, append-nil, length-set, length-drop, map-id}
use Rattle.std.proofs.lemmas.Bool.{both_ways, leb-true, and_parts, le-leb, and_from, cond-true, cond-false}
use Rattle.std.proofs.lemmas.List.Concat.{flat_map-append, flat_map_single}
use Rattle.std.proofs.Math.Nat.{mul-le-mul_right}
use Rattle.std.specs.List.{flat_map}
use Rattle.numeric.specs.Interval.{Interval}
use Rattle.numeric.specs.Lists.{flat, fits, written, Lays}

module _ {A : Type 0} (list : List A) (at : ℕ) (xs : List A) where
  pub fits_from : at ≤ length list → length xs ≤ length list - at → fits list at xs ≡ true
  fits_from h k = and_from (leb at (length list)) (leb (length xs) (length list - at)) (le-leb at (length list) h) (le-leb (length xs) (length list - at) k)

  pub fits_room : fits list at xs ≡ true → at + length xs ≤ length list
  fits_room f =
      let p = and_parts (leb at (length list)) (leb (length xs) (length list - at)) f in
      omega (arith, leb-true at (length list) p.0, leb-true (length xs) (length list - at) p.1)

  pub put_whole : (new : List A) (r : ℕ) → fits list at xs ≡ true → r ≡ at + length xs → new ≡ written list at xs → Lays list at xs new r
  put_whole new r f p q = record {
    end = p ∙ sym (cond-true (fits list at xs) (at + length xs) at f);
    after = q ∙ sym (cond-true (fits list at xs) (written list at xs) list f);
    whole = λ _. (p, q);
  }

  pub put_none : fits list at xs ≡ false → Lays list at xs list at
  put_none f = record {
    end = sym (cond-false (fits list at xs) (at + length xs) at f);
    after = sym (cond-false (fits list at xs) (written list at xs) list f);
    whole = λ t. absurd (both_ways (fits list at xs) f t);
  }

  front : at ≤ length list → length (take at list ++ xs) ≡ at + length xs
  front l = length-append (take at list) xs ∙ ap (λ (n : ℕ). n + length xs) (length-take-le at list l)

  joined : written list at xs ≡ (take at list ++ xs) ++ drop (at + length xs) list
  joined = sym (append_assoc (take at list) xs (drop (at + length xs) list))

  pub take_written : at ≤ length list → take (at + length xs) (written list at xs) ≡ take at list ++ xs
  take_written l = ap (take (at + length xs)) joined ∙ take_at (take at list ++ xs) (drop (at + length xs) list) (at + length xs) (front l)

  pub drop_written : at ≤ length list → drop (at + length xs) (written list at xs) ≡ drop (at + length xs) list
  drop_written l = ap (drop (at + length xs)) joined ∙ drop_at (take at list ++ xs) (drop (at + length xs) list) (at + length xs) (front l)

  pub written_length : at + length xs ≤ length list → length (written list at xs) ≡ length list
  written_length h = ap length joined ∙ length-append (take at list ++ xs) (drop (at + length xs) list) ∙ omega (arith, front (omega arith), length-drop (at + length xs) list)

  -- ys behind xs is both at once
  pub written_more : (ys : List A) → at + length xs ≤ length list → written (written list at xs) (at + length xs) ys ≡ written list at (xs ++ ys)
  written_more ys h =
      let n = at + length xs in
      let w = written list at xs in
      let l : at ≤ length list = omega arith in
      let past : drop (n + length ys) w ≡ drop (n + length ys) list = sym (drop-drop (length ys) n w) ∙ ap (drop (length ys)) (drop_written l) ∙ drop-drop (length ys) n list in
      let deep : n + length ys ≡ at + length (xs ++ ys) = omega (arith, length-append xs ys) in
      ap (λ (zs : List A). zs ++ (ys ++ drop (n + length ys) w)) (take_written l)
      ∙ ap (λ (zs : List A). (take at list ++ xs) ++ (ys ++ zs)) past
      ∙ append_assoc (take at list) xs (ys ++ drop (n + length ys) list)
      ∙ ap (λ (zs : List A). take at list ++ zs) (sym (append_assoc xs ys (drop (n + length ys) list)))
      ∙ ap (λ (m : ℕ). take at list ++ ((xs ++ ys) ++ drop m list)) deep

pub written_none : {A : Type 0} (list : List A) (at : ℕ) → list ≡ written list at []
written_none list at = sym (ap (λ n. take at list ++ drop n list) (omega arith) ∙ take-append-drop at list)

pub written_one : {A : Type 0} (list : List A) (at : ℕ) (x : A) → at < length list → set list at x ≡ written list at (x ∷ [])
written_one {A} list at x h =
    ap (λ (zs : List A). set zs at x) (sym (take-append-drop at list) ∙ ap (λ (zs : List A). take at list ++ zs) (drop_more list at x h))
    ∙ set_at (take at list) (get_or list at x) (drop (at + 1) list) x at (length-take-le at list (omega arith))

pub written_two : {A : Type 0} (list : List A) (at : ℕ) (x y : A) → at + 1 < length list → set (set list at x) (at + 1) y ≡ written list at (x ∷ y ∷ [])
written_two {A} list at x y h =
    written_one (set list at x) (at + 1) y (omega (arith, length-set list at x))
    ∙ ap (λ (zs : List A). written zs (at + 1) (y ∷ [])) (written_one list at x (omega arith))
    ∙ written_more list at (x ∷ []) (y ∷ []) (omega arith)

-- after a write of xs to the part of the list that begins at `at` and is as long as they are
pub mid_written : {A : Type 0} (list : List A) (at k : ℕ) (xs ys : List A) → k ≡ length xs → ys ≡ xs → put_mid at k list ys ≡ written list at xs
mid_written {A} list at k xs ys e q =
    ap (λ (zs : List A). take at list ++ (zs ++ drop k (drop at list))) q ∙ ap (λ (zs : List A). take at list ++ (xs ++ zs)) (drop-drop k at list ∙ ap (λ (n : ℕ). drop n list) (omega arith))

-- and after laying them there
pub part_laid : {A : Type 0} (list : List A) (at k : ℕ) (xs ys : List A) (r : ℕ) → k ≡ length xs → at + k ≤ length list → Lays (take k (drop at list)) 0 xs ys r → put_mid at k list ys ≡ written list at xs
part_laid {A} list at k xs ys r e h l =
    let part = take k (drop at list) in
    let long : length part ≡ k = length-take-le k (drop at list) (omega (arith, length-drop at list)) in
    mid_written list at k xs ys e ((l.whole (fits_from part 0 xs (omega arith) (omega arith))).1 ∙ ap (λ (zs : List A). xs ++ zs) (drop_all (0 + length xs) part (omega arith)) ∙ append-nil xs)

-- k numbers for each item: a loop that lays them has come to the item i, and to the place `end` of the list
module _ {X : Type 0} (list : List Float) (at k : ℕ) (xs : List X) where
  -- `r` says whether they fit
  abbrev pub Room : Bool → ℕ → Type 0
  Room r n = (n ≡ k) × (r ≡ (leb at (length list) && leb (length xs * n) (length list - at)))

  pub room_each : (r : Bool) (n : ℕ) → Room r n → r ≡ true → at + length xs * k ≤ length list
  room_each r n (e, q) t =
      let p = and_parts (leb at (length list)) (leb (length xs * n) (length list - at)) (sym q ∙ t) in
      let m : length xs * n ≡ length xs * k = ap (λ (m : ℕ). length xs * m) e in
      omega (arith, leb-true at (length list) p.0, leb-true (length xs * n) (length list - at) p.1)

  pub room_next : (i end : ℕ) → at + length xs * k ≤ length list → i < length xs → end ≡ at + i * k → end + k ≤ length list
  room_next i end h l e =
      let m : (i + 1) * k ≤ length xs * k = mul-le-mul_right {m = i + 1} {n = length xs} k (omega arith) in
      grind arith

  module _ (f : X → List Float) (long : (x : X) → length (f x) ≡ k) where
    each_length : (ys : List X) → length (flat_map f ys) ≡ length ys * k
    each_length [] = omega arith
    each_length (y ∷ ys) = length-append (f y) (flat_map f ys) ∙ grind (arith, long y, each_length ys)

    each_fits : (r : Bool) (n : ℕ) → Room r n → fits list at (flat_map f xs) ≡ r
    each_fits r n (e, q) = ap (λ (m : ℕ). leb at (length list) && leb m (length list - at)) (each_length xs ∙ ap (λ (m : ℕ). length xs * m) (sym e)) ∙ sym q

    pub each_none : (r : Bool) (n : ℕ) → Room r n → r ≡ false → Lays list at (flat_map f xs) list at
    each_none r n o t = put_none list at (flat_map f xs) (each_fits r n o ∙ t)

    pub each_more : (i : ℕ) (x : X) (new after ns : List Float) (end : ℕ) → i < length xs → x ≡ get_or xs i x → end ≡ at + i * k → at + length xs * k ≤ length list → new ≡ written list at (flat_map f (take i xs)) → after ≡ written new end ns → ns ≡ f x
        → after ≡ written list at (flat_map f (take (i + 1) xs))
    each_more i x new after ns end h xi e room n w l =
        let ys = flat_map f (take i xs) in
        let q : end ≡ at + length ys = omega (arith, e, each_length (take i xs), ap (λ (m : ℕ). m * k) (length-take-le i xs (omega arith))) in
        let fit = room_next i end room h e in
        let more : flat_map f (take (i + 1) xs) ≡ ys ++ f x =
        ap (flat_map f) (take_more xs i x h ∙ ap (λ (y : X). take i xs ++ (y ∷ [])) (sym xi)) ∙ flat_map-append f (take i xs) (x ∷ []) ∙ ap (λ (zs : List Float). ys ++ zs) (append-nil (f x)) in
        w
        ∙ ap (written new end) l
        ∙ ap (λ (zs : List Float). written zs end (f x)) n
        ∙ ap (λ (m : ℕ). written (written list at ys) m (f x)) q
        ∙ written_more list at ys (f x) (omega (arith, long x))
        ∙ ap (written list at) (sym more)

    pub each_all : (r : Bool) (n i end : ℕ) (new : List Float) → Room r n → r ≡ true → i ≤ length xs → length xs ≤ i → end ≡ at + i * k → new ≡ written list at (flat_map f (take i xs)) → Lays list at (flat_map f xs) new end
    each_all r n i end new o t h g e w =
        let full : i ≡ length xs = omega arith in
        put_whole list at (flat_map f xs) new end (each_fits r n o ∙ t)
        (e ∙ ap (λ (m : ℕ). at + m) (ap (λ (m : ℕ). m * k) full ∙ sym (each_length xs)))
        (w ∙ ap (λ (ys : List X). written list at (flat_map f ys)) (take_all i xs g))

-- what put_each and put lay, where each item makes one number, or a pair
module _ {X : Type 0} {list : List Float} {at : ℕ} {new : List Float} {r : ℕ} (items : List X) where
  pub lays_numbers : (g : X → Float) → Lays list at (flat_map (λ x. g x ∷ []) items) new r → Lays list at (map g items) new r
  lays_numbers g l = subst (λ ys. Lays list at ys new r) (flat_map_single g items) l

  pub lays_pairs : (g : X → Interval) → Lays list at (flat_map (λ x. (g x).0 ∷ (g x).1 ∷ []) items) new r → Lays list at (flat (map g items)) new r
  lays_pairs g l = subst (λ ys. Lays list at ys new r) (flat_each items) l
    where
      flat_each : (xs : List X) → flat_map (λ x. (g x).0 ∷ (g x).1 ∷ []) xs ≡ flat (map g xs)
      flat_each [] = refl
      flat_each (x ∷ xs) = ap (λ (ys : List Float). (g x).0 ∷ (g x).1 ∷ ys) (flat_each xs)

flat_ones : (xs : List Float) → flat_map (λ x. x ∷ []) xs ≡ xs
flat_ones xs = flat_map_single (λ x. x) xs ∙ map-id xs

-- where the items are numbers themselves, or pairs
module _ {list : List Float} {at : ℕ} {new : List Float} {r : ℕ} where
  pub lays_all : (xs : List Float) → Lays list at (flat_map (λ x. x ∷ []) xs) new r → Lays list at xs new r
  lays_all xs l = subst (λ ys. Lays list at ys new r) (flat_ones xs) l

  pub lays_ones : (xs : List Float) → Lays list at xs new r → Lays list at (flat_map (λ x. x ∷ []) xs) new r
  lays_ones xs l = subst (λ ys. Lays list at ys new r) (sym (flat_ones xs)) l

  pub lays_flat : (ps : List Interval) → Lays list at (flat_map (λ p. p.0 ∷ p.1 ∷ []) ps) new r → Lays list at (flat ps) new r
  lays_flat ps l = subst (λ qs. Lays list at (flat qs) new r) (map-id ps) (lays_pairs ps (λ p. p) l)

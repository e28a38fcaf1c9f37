-- A list of which the front is used, with more written behind it. Assumes nothing.
use Rattle.std.proofs.Common.{◌≡◌, ℕ, ◌+◌, ◌<◌, ◌≤◌, List, [], ◌∷◌, ◌++◌, length, take, drop, slice_set, sym, refl, ap, ◌∙◌, append_assoc, length-append, length-drop, arith}
use Rattle.std.proofs.Math.Seq.{set-append_seam}
use Rattle.std.proofs.lemmas.List.{drop-drop, take_at, drop_at, map-id}
use Rattle.std.proofs.lemmas.List.Concat.{flat_map_single}
use lib.Ieee.{Float}
use Rattle.std.specs.List.{flat_map}
use Rattle.numeric.specs.Interval.{Interval}
use Rattle.numeric.specs.Lists.{flat, written}
use Rattle.set.specs.Fill.{Fill, appended, whole}

module _ {A : Type 0} where
  -- one after the other is both at once
  pub appended-appended : (f : Fill A) (xs ys : List A) → appended (appended f xs) ys ≡ appended f (xs ++ ys)
  appended-appended f xs ys =
      let front = append_assoc f.front xs ys in
      let rest = drop-drop (length ys) (length xs) f.rest ∙ ap (λ (n : ℕ). drop n f.rest) (sym (length-append xs ys)) in
      λ j. record { front = front j; rest = rest j }

  pub whole-appended : (f : Fill A) (xs : List A) → whole (appended f xs) ≡ written (whole f) (length f.front) xs
  whole-appended f xs =
      let n = length f.front in
      let front : take n (whole f) ≡ f.front = take_at f.front f.rest n refl in
      let rest : drop (n + length xs) (whole f) ≡ drop (length xs) f.rest = sym (drop-drop (length xs) n (whole f)) ∙ ap (drop (length xs)) (drop_at f.front f.rest n refl) in
      append_assoc f.front xs (drop (length xs) f.rest) ∙ sym (λ j. front j ++ (xs ++ rest j))

  -- what has room leaves the list as long as it was
  pub length-appended : (f : Fill A) (xs : List A) → length xs ≤ length f.rest → length (whole (appended f xs)) ≡ length (whole f)
  length-appended f xs h =
      let used = length-append f.front xs in
      let free = length-drop (length xs) f.rest in
      omega (arith, length-append (f.front ++ xs) (drop (length xs) f.rest), length-append f.front f.rest)

  first_set : (front rest : List A) (x : A) → 0 < length rest → (front ++ (x ∷ [])) ++ drop 1 rest ≡ slice_set (front ++ rest) (length front) x
  first_set front [] x h = absurd (omega arith)
  first_set front (y ∷ ys) x h = append_assoc front (x ∷ []) ys ∙ sym (set-append_seam front y ys x)

  pub whole-appended_one : (f : Fill A) (x : A) → 0 < length f.rest → whole (appended f (x ∷ [])) ≡ slice_set (whole f) (length f.front) x
  whole-appended_one f x h = first_set f.front f.rest x h

-- ---- what numbers and pairs are in a list

pub numbers_of_numbers : (xs : List Float) → flat_map (λ x. x ∷ []) xs ≡ xs
numbers_of_numbers xs = flat_map_single (λ x. x) xs ∙ map-id xs

pub numbers_of_pairs : (ps : List Interval) → flat_map (λ p. p.0 ∷ p.1 ∷ []) ps ≡ flat ps
numbers_of_pairs [] = refl
numbers_of_pairs (p ∷ ps) = ap (λ (xs : List Float). p.0 ∷ p.1 ∷ xs) (numbers_of_pairs ps)

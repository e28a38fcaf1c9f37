-- Laws of a list that is laid over the front of another. Assumes nothing.
use Rattle.std.proofs.Common.{◌≡◌, ℕ, zero, suc, ◌+◌, ◌<◌, ◌≤◌, min, List, [], ◌∷◌, ◌++◌, length, get_or, take, drop, set, refl, ap, add-one, arith, ◌∙◌, ◌⊎◌, sym, inl, inr}
use Rattle.std.proofs.lemmas.List.{append_assoc, take-append-drop, take_more_set, drop-set-lt, drop_more, length-drop}
use Rattle.function.specs.Outputs.{over}

module _ {A : Type 0} where
  -- one more element of `new` is written
  more : (new old : List A) (i : ℕ) (d : A) → i < length new → i < length old → set (over (take i new) old) i (get_or new i d) ≡ over (take (suc i) new) old
  more [] old i d h k = absurd (omega arith)
  more (x ∷ xs) [] i d h k = absurd (omega arith)
  more (x ∷ xs) (y ∷ ys) zero d h k = refl
  more (x ∷ xs) (y ∷ ys) (suc i) d h k = ap (λ zs. x ∷ zs) (more xs ys i d (omega arith) (omega arith))

  pub over_more : (new old : List A) (i : ℕ) (d : A) → i < length new → i < length old → set (over (take i new) old) i (get_or new i d) ≡ over (take (i + 1) new) old
  over_more new old i d h k = rw add-one (more new old i d h k)

  -- all of it is written
  pub over_all : (new old : List A) (i : ℕ) → min (length new) (length old) ≤ i → over (take i new) old ≡ over new old
  over_all [] old i h = ap (λ (xs : List A). over xs old) (take_none i)
    where
      take_none : (i : ℕ) → take {A = A} i [] ≡ []
      take_none zero = refl
      take_none (suc i) = refl
  over_all (x ∷ xs) [] zero h = refl
  over_all (x ∷ xs) [] (suc i) h = refl
  over_all (x ∷ xs) (y ∷ ys) zero h = absurd (omega arith)
  over_all (x ∷ xs) (y ∷ ys) (suc i) h = ap (λ zs. x ∷ zs) (over_all xs ys i (omega arith))

  -- what fits stands whole before the rest
  pub over_fits : (new old : List A) → length new ≤ length old → over new old ≡ new ++ drop (length new) old
  over_fits [] old h = refl
  over_fits (x ∷ xs) [] h = absurd (omega arith)
  over_fits (x ∷ xs) (y ∷ ys) h = ap (λ zs. x ∷ zs) (over_fits xs ys (omega arith))

  -- it lies in the front alone
  pub over_front : (new old : List A) (n : ℕ) → min (length new) (length old) ≤ n → over new (take n old) ++ drop n old ≡ over new old
  over_front [] old n h = take-append-drop n old
  over_front (x ∷ xs) [] zero h = refl
  over_front (x ∷ xs) [] (suc n) h = refl
  over_front (x ∷ xs) (y ∷ ys) zero h = absurd (omega arith)
  over_front (x ∷ xs) (y ∷ ys) (suc n) h = ap (λ zs. x ∷ zs) (over_front xs ys n (omega arith))

  pub over_length : (new old : List A) → length (over new old) ≡ length old
  over_length [] old = refl
  over_length (x ∷ xs) [] = refl
  over_length (x ∷ xs) (y ∷ ys) = ap suc (over_length xs ys)

  -- a loop that writes at i: `now` is done up to there, and `rest` is still to be laid over what follows
  abbrev pub Left : List A → List A → ℕ → List A → Type 0
  Left done now i rest = done ≡ take i now ++ over rest (drop i now)

  pub left_more : (done now : List A) (i : ℕ) (x : A) (rest : List A) → i < length now → Left done now i (x ∷ rest) → Left done (set now i x) (i + 1) rest
  left_more done now i x rest h l =
      l
      ∙ ap (λ (ys : List A). take i now ++ over (x ∷ rest) ys) (drop_more now i x h)
      ∙ sym (append_assoc (take i now) (x ∷ []) (over rest (drop (i + 1) now)))
      ∙ rw (take_more_set now i x h, drop-set-lt (i + 1) now i x (omega arith)) refl

  -- nothing is left to be written, or no place to write it to
  pub left_all : (done now : List A) (i : ℕ) (rest : List A) → (length rest ≡ 0) ⊎ (length now ≤ i) → Left done now i rest → now ≡ done
  left_all done now i rest e l = sym (l ∙ ap (λ (xs : List A). take i now ++ xs) (over_none rest (drop i now) (elim e [ inl none ↦ inl none | inr end ↦ inr (omega (arith, length-drop i now)) ])) ∙ take-append-drop i now)
    where
      over_none : (rest old : List A) → (length rest ≡ 0) ⊎ (length old ≡ 0) → over rest old ≡ old
      over_none [] old e = refl
      over_none (x ∷ xs) [] e = refl
      over_none (x ∷ xs) (y ∷ ys) (inl e) = absurd (omega arith)
      over_none (x ∷ xs) (y ∷ ys) (inr e) = absurd (omega arith)

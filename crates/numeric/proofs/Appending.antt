-- One stretch of numbers laid behind another. Assumes nothing.
use Rattle.std.proofs.Common.{◌≡◌, ℕ, ◌+◌, ◌≤◌, true, List, ◌++◌, length, take, drop, sym, ap, ◌∙◌, arith}
use Rattle.std.proofs.lemmas.List.{length-append}
use Rattle.std.proofs.lemmas.Bool.{cond-true}
use Rattle.numeric.specs.Lists.{fits, written, laid, behind, Lays}
use Rattle.numeric.proofs.Laying.{fits_from, take_written, written_length, written_more}

module _ {A : Type 0} where
  pub fits_sum : (list : List A) (at : ℕ) (xs : List A) → at + length xs ≤ length list → fits list at xs ≡ true
  fits_sum list at xs h = fits_from list at xs (omega arith) (omega arith)

  pub laid_is : (list : List A) (at : ℕ) (xs : List A) → at + length xs ≤ length list → laid list at xs ≡ take at list ++ (xs ++ drop (at + length xs) list)
  laid_is list at xs h = cond-true (fits list at xs) (written list at xs) list (fits_sum list at xs h)

  pub behind_is : (list : List A) (at : ℕ) (xs : List A) → at + length xs ≤ length list → behind list at xs ≡ at + length xs
  behind_is list at xs h = cond-true (fits list at xs) (at + length xs) at (fits_sum list at xs h)

  pub laid_length : (list : List A) (at : ℕ) (xs : List A) → at + length xs ≤ length list → length (laid list at xs) ≡ length list
  laid_length list at xs h = ap length (laid_is list at xs h) ∙ written_length list at xs h

  pub take_laid : (list : List A) (at : ℕ) (xs : List A) → at + length xs ≤ length list → take (at + length xs) (laid list at xs) ≡ take at list ++ xs
  take_laid list at xs h = ap (take (at + length xs)) (laid_is list at xs h) ∙ take_written list at xs (omega arith)

  -- ys laid behind xs is both laid at once
  pub laid_laid : (list : List A) (at : ℕ) (xs ys : List A) → at + (length xs + length ys) ≤ length list → laid (laid list at xs) (at + length xs) ys ≡ laid list at (xs ++ ys)
  laid_laid list at xs ys h =
      let first : at + length xs ≤ length list = omega arith in
      ap (λ (zs : List A). laid zs (at + length xs) ys) (laid_is list at xs first)
      ∙ laid_is (written list at xs) (at + length xs) ys (omega (arith, written_length list at xs first))
      ∙ written_more list at xs ys first
      ∙ sym (laid_is list at (xs ++ ys) (omega (arith, length-append xs ys)))

  -- xs were laid into the list from `at` on, and r is the place behind them
  abbrev pub LaidUp : List A → ℕ → List A → List A → ℕ → Type 0
  LaidUp list at xs new r = (r ≡ at + length xs) × (new ≡ laid list at xs)

  pub laid_first : (list : List A) (at : ℕ) (xs new : List A) (r : ℕ) → at + length xs ≤ length list → Lays list at xs new r → LaidUp list at xs new r
  laid_first list at xs new r h l = (l.end ∙ behind_is list at xs h, l.after)

  pub laid_next : (list : List A) (at : ℕ) (xs mid : List A) (r : ℕ) (ys new : List A) (r' : ℕ) → at + (length xs + length ys) ≤ length list → LaidUp list at xs mid r → Lays mid r ys new r' → LaidUp list at (xs ++ ys) new r'
  laid_next list at xs mid r ys new r' h (p, q) l =
      let long : length mid ≡ length list = ap length q ∙ laid_length list at xs (omega arith) in
      let sum = length-append xs ys in
      let end = l.end ∙ behind_is mid r ys (omega arith) in (
        omega arith,
        l.after
            ∙ ap (λ (m : ℕ). laid mid m ys) p
            ∙ ap (λ (zs : List A). laid zs (at + length xs) ys) q
            ∙ laid_laid list at xs ys h,
      )

-- Laws of a part of a list. Assumes nothing.
use Rattle.std.proofs.Common.{◌≡◌, ℕ, ◌+◌, ◌-◌, ◌≤◌, List, ◌++◌, length, take, drop, slice_range, ap, ◌∙◌, arith}
use Rattle.std.proofs.lemmas.List.{length-take-le, length-drop, take-append-le, drop-append-le, take_at, drop_at}

module _ {A : Type 0} where
  pub length-slice_range : (xs : List A) (a b : ℕ) → b ≤ length xs → length (slice_range xs a b) ≡ b - a
  length-slice_range xs a b h = let l = length-drop a xs in length-take-le (b - a) (drop a xs) (omega arith)

  -- what lies before the end of xs stays, whatever follows
  pub slice_range-append : (xs ys : List A) (a b : ℕ) → a ≤ b → b ≤ length xs → slice_range (xs ++ ys) a b ≡ slice_range xs a b
  slice_range-append xs ys a b h k =
      let l = length-drop a xs in
      ap (take (b - a)) (drop-append-le a xs ys (omega arith)) ∙ take-append-le (b - a) (drop a xs) ys (omega arith)

  -- the middle of three
  pub slice_range_mid : (xs front mid back : List A) (a b : ℕ) → xs ≡ front ++ (mid ++ back) → a ≡ length front → b ≡ a + length mid → slice_range xs a b ≡ mid
  slice_range_mid xs front mid back a b e p q =
      ap (λ (zs : List A). slice_range zs a b) e
      ∙ ap (take (b - a)) (drop_at front (mid ++ back) a (omega arith))
      ∙ take_at mid back (b - a) (omega arith)

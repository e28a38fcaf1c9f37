-- The parts of a stitched function among the functions loaded earlier. Assumes nothing.
use Rattle.std.proofs.Common.{◌≡◌, ℕ, ◌^◌, ◌<◌, ◌≤◌, max, true, eqb, ltb, List, [], ◌∷◌, length, get_or, map, refl, ◌∙◌, arith}
use Rattle.std.specs.List.{fold, reduce}
use Rattle.std.specs.Option.{unwrap_or}
use Rattle.std.proofs.lemmas.List.Recursion.{max_bounds}
use Rattle.std.proofs.lemmas.Bool.{and_from, and_parts, lt-ltb, ltb-true, eqb-true}
use Rattle.numeric.specs.Lists.{every}
use Rattle.numeric.proofs.Every.{every_at}
use Rattle.stitched.specs.Stitched.{no_earlier, is_part, depth_of, deepest}
use Rattle.stitched.specs.declared.earlier.Known.{Known}

module _ (earlier : List Known) where
  -- the deepest part, as `max` over the parts finds it
  fold_deepest : (parts : List ℕ) (depth : ℕ) → fold max depth (map (depth_of earlier) parts) ≡ max depth (deepest earlier parts)
  fold_deepest [] depth = omega arith
  fold_deepest (p ∷ ps) depth = fold_deepest ps (max depth (depth_of earlier p)) ∙ omega arith

  pub reduce_deepest : (parts : List ℕ) → unwrap_or (reduce max (map (depth_of earlier) parts)) 0 ≡ deepest earlier parts
  reduce_deepest [] = refl
  reduce_deepest (p ∷ ps) = fold_deepest ps (depth_of earlier p)

  -- ---- what the checks say of each part

  is_one : (p : ℕ) → is_part earlier p ≡ true → (p < length earlier) × ((get_or earlier p no_earlier).inputs ≡ 1)
  is_one p e =
      let k = and_parts (ltb p (length earlier)) (eqb (get_or earlier p no_earlier).inputs 1) e in
      (ltb-true p (length earlier) k.0, eqb-true (get_or earlier p no_earlier).inputs 1 k.1)

  pub part_loaded : (parts : List ℕ) (i : ℕ) → every (is_part earlier) parts ≡ true → i < length parts → get_or parts i 0 < length earlier
  part_loaded parts i e h = (is_one (get_or parts i 0) (every_at (is_part earlier) parts i 0 e h)).0

  pub part_inputs : (parts : List ℕ) (i : ℕ) → every (is_part earlier) parts ≡ true → i < length parts → (get_or earlier (get_or parts i 0) no_earlier).inputs ≡ 1
  part_inputs parts i e h = (is_one (get_or parts i 0) (every_at (is_part earlier) parts i 0 e h)).1

  pub part_depth : (parts : List ℕ) (i : ℕ) → i < length parts → (get_or earlier (get_or parts i 0) no_earlier).depth ≤ deepest earlier parts
  part_depth parts i h = max_bounds (deepest earlier) (depth_of earlier) refl (λ _ _. refl) parts i 0 h

  -- what is loaded is few enough for f32 to count
  pub parts_small : (parts : List ℕ) → length earlier ≤ 2 ^ 24 → every (is_part earlier) parts ≡ true → every (λ (p : ℕ). ltb p (2 ^ 24)) parts ≡ true
  parts_small [] h e = refl
  parts_small (p ∷ ps) h e =
      let k = and_parts (is_part earlier p) (every (is_part earlier) ps) e in
      let l = (is_one p k.0).0 in
      and_from (ltb p (2 ^ 24)) (every (λ (q : ℕ). ltb q (2 ^ 24)) ps) (lt-ltb p (2 ^ 24) (omega arith)) (parts_small ps h k.1)

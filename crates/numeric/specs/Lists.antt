-- Lists of numbers and of pairs: a test over all, pairs as they lie in a list of numbers, one number after the other, and laying numbers into a longer list. Assumes nothing.
use Rattle.std.specs.Prelude.{◌≡◌, ℕ, ◌+◌, ◌-◌, Bool, true, cond, ◌&&◌, List, [], ◌∷◌, ◌++◌, length, take, drop, nat_le, Float}
use Rattle.std.specs.List.{list_all}
use Rattle.std.specs.Fn.{Shared, AnyResult}
use Rattle.numeric.specs.Interval.{Interval}

abbrev pub every : {A : Type 0} → (A → Bool) → List A → Bool
every t xs = list_all t xs

-- the numbers of the pairs, in order
abbrev pub flat : List Interval → List Float
flat [] = []
flat (p ∷ ps) = p.0 ∷ p.1 ∷ flat ps

-- the pairs that lie in a list; a last number without a second is none
abbrev pub pairs_of : List Float → List Interval
pairs_of [] = []
pairs_of (a ∷ []) = []
pairs_of (a ∷ b ∷ xs) = (a, b) ∷ pairs_of xs

-- the list has room for xs from `at` on
abbrev pub fits : {A : Type 0} → List A → ℕ → List A → Bool
fits list at xs = nat_le at (length list) && nat_le (length xs) (length list - at)

-- the list with xs from `at` on
abbrev pub written : {A : Type 0} → List A → ℕ → List A → List A
written list at xs = take at list ++ (xs ++ drop (at + length xs) list)

-- where they do not fit, nothing is written
abbrev pub laid : {A : Type 0} → List A → ℕ → List A → List A
laid list at xs = cond (fits list at xs) (written list at xs) list

-- the place behind what was written
abbrev pub behind : {A : Type 0} → List A → ℕ → List A → ℕ
behind list at xs = cond (fits list at xs) (at + length xs) at

-- what laying xs into the list comes to: the list after it is `new`, and r the place behind; `whole` says it again for where xs fit
pub record Lays {A : Type 0} (list : List A) (at : ℕ) (xs new : List A) (r : ℕ) : Type 0 where
  pub end : r ≡ behind list at xs
  pub after : new ≡ laid list at xs
  pub whole : fits list at xs ≡ true → (r ≡ at + length xs) × (new ≡ written list at xs)

-- whatever f may make of an x is g x
abbrev pub Makes : {F T P : Type 0} → Shared F (T × Unit {0}) P → F → (T → P) → Type 0
Makes {F} {T} m f g = (x : T) → AnyResult m f (x, tt) (λ p. p ≡ g x)

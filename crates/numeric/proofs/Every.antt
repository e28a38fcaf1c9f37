-- A test over a list: an element, two lists joined. Assumes nothing.
use Rattle.std.proofs.Common.{◌≡◌, ℕ, ◌<◌, Bool, true, ◌&&◌, List, ◌++◌, length, get_or}
use Rattle.std.proofs.lemmas.List.Folds.{list_all-append, list_all_at}
use Rattle.std.proofs.lemmas.Fn.{fronts}
use Rattle.std.proofs.lemmas.Iterator.{YieldsList-from_slice}
use Rattle.std.proofs.lemmas.Iterator.Search.{all_from_yields_List}
use Rattle.std.specs.Borrow.{Bor}
use Rattle.std.specs.Fn.{Mut, Called}
use Rattle.std.specs.Iterator.{ChecksAll}
use Rattle.std.specs.Slice.Iter.{iter_rest}
use Rattle.std.specs.declared.slice.Iter.{Iter}
use Rattle.std.proofs.lemmas.Bool.{both_ways, true_from_ne_false}
use Rattle.numeric.specs.Lists.{every}

module _ {A : Type 0} (t : A → Bool) where
  pub every_at : (xs : List A) (i : ℕ) (d : A) → every t xs ≡ true → i < length xs → t (get_or xs i d) ≡ true
  every_at xs i d e h = true_from_ne_false (t (get_or xs i d)) (λ f. both_ways (every t xs) (list_all_at t xs i d h f) e)

  pub every_append : (xs ys : List A) → every t (xs ++ ys) ≡ (every t xs && every t ys)
  every_append xs ys = list_all-append t xs ys

-- what `all` answers over a slice
pub every_slice : {A F : Type 0} {g : Mut F (Bor A × Unit {0}) Bool} {s u : Iter A} {f : F} {r : Bool} (t : A → Bool) (xs : List A) → iter_rest s ≡ xs → ChecksAll fronts g s f r u
    → ((x : Bor A) (b : Bool) (q : F) → Called g f (x, tt) b q → (q ≡ f) × (b ≡ t x.now)) → r ≡ every t xs
every_slice {u = u} {f = f} {r = r} t xs e ran k = all_from_yields_List t u f r ran (YieldsList-from_slice xs e) k

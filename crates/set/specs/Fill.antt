-- A list of which the front is used. Assumes nothing.
use Rattle.std.specs.Prelude.{List, ◌++◌, length, drop}

-- what is used, and what is free behind it
pub record Fill (A : Type 0) : Type 0 where
  pub front : List A
  pub rest : List A

module _ {A : Type 0} where
  -- the list, used or not
  abbrev pub whole : Fill A → List A
  whole f = f.front ++ f.rest

  -- xs are written behind what is used
  abbrev pub appended : Fill A → List A → Fill A
  appended f xs = record { front = f.front ++ xs; rest = drop (length xs) f.rest }

-- What a function writes to its caller's list. Assumes nothing.
use Rattle.std.specs.Prelude.{List, [], ◌∷◌}

-- new laid over the front of old, as far as old goes
abbrev pub over : {A : Type 0} → List A → List A → List A
over [] old = old
over (x ∷ xs) [] = []
over (x ∷ xs) (y ∷ ys) = x ∷ over xs ys

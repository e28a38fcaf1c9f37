-- Laws of the outputs of an exponential function. Assumes nothing.
use Rattle.std.proofs.Common.{◌≡◌, min, List, [], ◌∷◌, length, arith}
use lib.Ieee.{Float}
use Rattle.function.specs.Exponential.{mixed}

pub mixed_length : (t : Float) (xs ys : List Float) → length (mixed t xs ys) ≡ min (length xs) (length ys)
mixed_length t [] ys = omega arith
mixed_length t (x ∷ xs) [] = omega arith
mixed_length t (x ∷ xs) (y ∷ ys) = let e = mixed_length t xs ys in omega arith

-- Domain and Range pairs, clamping to them, and interpolation from one to another. Every operation on floats rounds once. Assumes nothing.
use Rattle.std.specs.Prelude.{Bool, cond, ◌&&◌, ◌||◌, List, [], ◌∷◌, is_nan, Float}
use Rattle.std.specs.Float.Ieee.{add, sub, mul, div, lt, le}
use Rattle.std.specs.Float.{float_is_finite, binary32}

-- the two numbers of a Domain, Range, Encode or Decode pair
abbrev pub Interval : Type 0
Interval = Float × Float

abbrev pub both_finite : Interval → Bool
both_finite p = float_is_finite p.0 && float_is_finite p.1

abbrev pub rises : Interval → Bool
rises p = le p.0 p.1

-- what a Domain or Range pair must be: finite, the first at most the second
abbrev pub ordered : Interval → Bool
ordered p = both_finite p && rises p

-- a NaN and what is more than b become b
abbrev pub at_most : Float → Float → Float
at_most b v = cond (is_nan v || lt b v) b v

-- what is less than a becomes a
abbrev pub at_least : Float → Float → Float
at_least a v = cond (lt v a) a v

-- Clamping to a pair: first to its second number, then to its first. Loading lets in only ordered pairs; two other numbers clamp nothing.
abbrev pub clamp : Interval → Float → Float
clamp p v = cond (ordered p) (at_least p.0 (at_most p.1 v)) v

-- v is a number of the pair
abbrev pub within : Interval → Float → Bool
within p v = le p.0 v && le v p.1

-- pair by pair, as far as both go
abbrev pub clamp_all : List Interval → List Float → List Float
clamp_all [] vs = vs
clamp_all (p ∷ ps) [] = []
clamp_all (p ∷ ps) (v ∷ vs) = clamp p v ∷ clamp_all ps vs

-- r + (((v - p) * (s - r)) / (q - p)), also where p = q
abbrev pub interpolate : Float → Interval → Interval → Float
interpolate v from to = add binary32 to.0 (div binary32 (mul binary32 (sub binary32 v from.0) (sub binary32 to.1 to.0)) (sub binary32 from.1 from.0))

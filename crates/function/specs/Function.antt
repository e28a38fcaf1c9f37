-- A loaded function as a mathematical value. Assumes nothing.
use Rattle.std.specs.Prelude.{List, Float}
use Rattle.numeric.specs.Interval.{Interval}

-- what each kind has beside its Domain and Range
pub data Body : Type 0 where
  exponential : (c0 c1 : List Float) (n : Float) → Body

-- a function without Range has no Range pairs
pub record Function : Type 0 where
  pub domain : List Interval
  pub range : List Interval
  pub body : Body

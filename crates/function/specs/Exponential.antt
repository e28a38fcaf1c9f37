-- Exponential functions (type 2): what a caller gives, what is checked, and what they compute. Assumes nothing.
use Rattle.std.specs.Borrow.{Bor}
use Rattle.std.specs.Prelude.{ℕ, Bool, cond, ◌&&◌, ◌||◌, List, [], ◌∷◌, length, Some, None, Option, ◌==◌, from_bits, nat_le, Float}
use Rattle.std.specs.Float.Ieee.{add, sub, mul, eq}
use Rattle.std.specs.Float.{float_is_finite, binary32}
use Rattle.fault.specs.Checks.{Check, check, fault}
use Rattle.fault.specs.declared.cause.Cause.TheVariants.{Count, NotFinite, UpsideDown, CountsDisagree}
use Rattle.numeric.specs.Interval.{Interval, both_finite, rises}
use Rattle.numeric.specs.Lists.{every, pairs_of}
use Rattle.units.specs.declared.question.Question.TheVariants.{Power}
use Rattle.function.specs.Answer.{Meaning}
use Rattle.function.specs.Function.{Function, exponential}
use Rattle.function.specs.Limits.{from_one_to, most_outputs}
use Rattle.function.specs.declared.type2.Exponential.{Exponential}
use Rattle.function.specs.declared.type2.Type2.{Type2}

-- ---- what is given

abbrev pub zero : Float
zero = from_bits binary32 0

abbrev pub one : Float
one = from_bits binary32 1065353216

-- a list of coefficients, or one default where it is absent
abbrev pub coefficients : Option (Bor (List Float)) → Float → List Float
coefficients None default = default ∷ []
coefficients (Some xs) default = xs.now

-- an absent C0 is 0, an absent C1 is 1
abbrev pub c0_of : Exponential → List Float
c0_of e = coefficients e.c0 zero

abbrev pub c1_of : Exponential → List Float
c1_of e = coefficients e.c1 one

abbrev pub exponential_of : Exponential → Function
exponential_of e = record { domain = e.domain.now; range = e.range.now; body = exponential (c0_of e) (c1_of e) e.n }

-- a loaded one, by its parts of the number list
abbrev pub stored : Type2 → Function
stored t = record { domain = pairs_of t.domain.now; range = pairs_of t.range.now; body = exponential t.c0.now t.c1.now t.n }

-- ---- what is checked

abbrev pub counts_fit : List Interval → List Interval → List Float → List Float → Bool
counts_fit domain range c0 c1 = length domain == 1 && (nat_le (length range) most_outputs && (from_one_to most_outputs (length c0) && from_one_to most_outputs (length c1)))

abbrev pub all_finite : List Interval → List Interval → List Float → List Float → Float → Bool
all_finite domain range c0 c1 n = every both_finite domain && (every both_finite range && (every float_is_finite c0 && (every float_is_finite c1 && float_is_finite n)))

-- as many numbers in C0 as in C1, and as many Range pairs or none
abbrev pub counts_agree : List Interval → List Float → List Float → Bool
counts_agree range c0 c1 = length c0 == length c1 && (length range == 0 || length range == length c0)

abbrev pub exponential_checks : ℕ → List Interval → List Interval → List Float → List Float → Float → List Check
exponential_checks index domain range c0 c1 n =
    check (counts_fit domain range c0 c1) (fault Count index)
    ∷ check (all_finite domain range c0 c1 n) (fault NotFinite index)
    ∷ check (every rises domain && every rises range) (fault UpsideDown index)
    ∷ check (counts_agree range c0 c1) (fault CountsDisagree index)
    ∷ []

abbrev pub given_checks : ℕ → Exponential → List Check
given_checks index e = exponential_checks index e.domain.now e.range.now (c0_of e) (c1_of e) e.n

-- ---- what is computed

-- the input itself where N is 1, else its power by the arithmetic unit
abbrev pub factor : Meaning → Float → Float → Float
factor μ n x = cond (eq n one) x (μ Power x n)

-- C0 + factor * (C1 - C0), each at its place
abbrev pub mixed : Float → List Float → List Float → List Float
mixed t [] bs = []
mixed t (a ∷ xs) [] = []
mixed t (a ∷ xs) (b ∷ ys) = add binary32 a (mul binary32 t (sub binary32 b a)) ∷ mixed t xs ys

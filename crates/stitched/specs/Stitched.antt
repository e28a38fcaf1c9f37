-- Stitched functions (type 3): what a caller gives, what is checked, and which part an input goes to. Assumes nothing.
use Rattle.std.specs.Prelude.{◌≡◌, ℕ, suc, ◌-◌, ◌<◌, max, Bool, true, cond, ◌&&◌, T, List, [], ◌∷◌, ◌++◌, map, length, get_or, pos, ◌==◌, from_bits, nat_le, nat_lt, slice_index_or, Float}
use Rattle.std.specs.Float.Ieee.{add, sub, lt, le, eq, fits}
use Rattle.std.specs.Float.{float_is_finite, nan, binary32}
use Rattle.fault.specs.Checks.{Check, check, fault}
use Rattle.fault.specs.declared.cause.Cause.TheVariants.{Count, NotFinite, UpsideDown, CountsDisagree, Part, Bounds, Depth}
use Rattle.numeric.specs.Interval.{Interval, both_finite, rises, ordered, within, interpolate, clamp_all}
use Rattle.numeric.specs.Lists.{every, flat, pairs_of}
use Rattle.numeric.specs.Whole.{cut_unsigned, nearest_to}
use Rattle.function.specs.Answer.{first}
use Rattle.function.specs.Limits.{from_one_to, full_list, most_parts, most_depth}
use Rattle.stitched.specs.declared.earlier.Known.{Known}
use Rattle.stitched.specs.declared.type3.Chosen.{Chosen}
use Rattle.stitched.specs.declared.type3.Needs.{Needs}
use Rattle.stitched.specs.declared.type3.Stitched.{Stitched}
use Rattle.stitched.specs.declared.type3.Type3.{Type3}

-- 0.0001
abbrev pub hair : Float
hair = from_bits binary32 0x38d1_b717

-- ---- what is checked

-- each bound is at least the one before it, the first at least `low`, and at most `high`
abbrev pub bounds_rise : Float → Float → List Float → Bool
bounds_rise low high [] = true
bounds_rise low high (b ∷ bs) = le low b && (le b high && bounds_rise b high bs)

abbrev pub no_earlier : Known
no_earlier = record { inputs = 0; depth = 0 }

-- loaded earlier, and of one input
abbrev pub is_part : List Known → ℕ → Bool
is_part earlier p = nat_lt p (length earlier) && (get_or earlier p no_earlier).inputs == 1

abbrev pub depth_of : List Known → ℕ → ℕ
depth_of earlier p = (get_or earlier p no_earlier).depth

abbrev pub deepest : List Known → List ℕ → ℕ
deepest earlier [] = 0
deepest earlier (p ∷ ps) = max (depth_of earlier p) (deepest earlier ps)

abbrev pub first_pair : List Interval → Interval
first_pair pairs = slice_index_or pairs 0 (nan, nan)

abbrev pub counts_fit : List Interval → List Interval → List ℕ → Bool
counts_fit domain range parts = length domain == 1 && (from_one_to most_parts (length parts) && nat_le (length range) full_list)

abbrev pub all_finite : List Interval → List Interval → List Float → List Interval → Bool
all_finite domain range bounds encode = every both_finite domain && (every both_finite range && (every float_is_finite bounds && every both_finite encode))

-- one bound between each two parts, and one Encode pair for each part
abbrev pub counts_agree : List ℕ → List Float → List Interval → Bool
counts_agree parts bounds encode = length bounds == length parts - 1 && length encode == length parts

abbrev pub stitched_checks : List Known → List Interval → List Interval → List ℕ → List Float → List Interval → List Check
stitched_checks earlier domain range parts bounds encode =
    let index = length earlier in
    check (counts_fit domain range parts) (fault Count index)
    ∷ check (all_finite domain range bounds encode) (fault NotFinite index)
    ∷ check (every rises domain && every rises range) (fault UpsideDown index)
    ∷ check (counts_agree parts bounds encode) (fault CountsDisagree index)
    ∷ check (every (is_part earlier) parts) (fault Part index)
    ∷ check (bounds_rise (first_pair domain).0 (first_pair domain).1 bounds) (fault Bounds index)
    ∷ check (nat_lt (deepest earlier parts) most_depth) (fault Depth index)
    ∷ []

abbrev pub given_checks : List Known → Stitched → List Check
given_checks earlier s = stitched_checks earlier s.domain.now s.range.now s.parts.now s.bounds.now s.encode.now

-- ---- what is stored

-- an index as it lies in the number list
abbrev pub index_number : ℕ → Float
index_number p = nearest_to (pos p)

-- the numbers behind the Domain and Range pairs
abbrev pub own_numbers : List ℕ → List Float → List Interval → List Float
own_numbers parts bounds encode = map index_number parts ++ (bounds ++ flat encode)

-- a stitched function takes an entry for each of its numbers, and is 1 deeper than its deepest part
abbrev pub needs_of : List Known → List Interval → List Interval → List ℕ → List Float → List Interval → Needs
needs_of earlier domain range parts bounds encode = record {
  numbers = length (flat domain ++ (flat range ++ own_numbers parts bounds encode));
  depth = suc (deepest earlier parts);
}

abbrev pub given_needs : List Known → Stitched → Needs
given_needs earlier s = needs_of earlier s.domain.now s.range.now s.parts.now s.bounds.now s.encode.now

abbrev pub given_numbers : Stitched → List Float
given_numbers s = own_numbers s.parts.now s.bounds.now s.encode.now

-- ---- which part an input goes to

-- Bounds with the ends of the Domain, each a hair wider
abbrev pub full_bounds : Interval → List Float → List Float
full_bounds domain bounds = sub binary32 domain.0 hair ∷ (bounds ++ (add binary32 domain.1 hair ∷ []))

-- the first part whose upper bound lies above the input, else the last: an inner bound belongs to the part on its right
abbrev pub pick : List Float → Float → ℕ
pick [] x = 0
pick (b ∷ bs) x = cond (lt x b) 0 (suc (pick bs x))

-- the stretch of a part, from its lower to its upper bound
abbrev pub stretch : Interval → List Float → ℕ → Interval
stretch domain bounds i = (slice_index_or (full_bounds domain bounds) i nan, slice_index_or (full_bounds domain bounds) (suc i) nan)

-- an input, taken from a stretch to an Encode pair; equal ends give its first number
abbrev pub encoded : Float → Interval → Interval → Float
encoded x from to = cond (eq from.0 from.1) to.0 (interpolate x from to)

-- what the part in the stretch i gets
abbrev pub part_input : Interval → List Float → List Interval → Float → ℕ → Float
part_input domain bounds encode x i = encoded x (stretch domain bounds i) (slice_index_or encode i (nan, nan))

-- where the first input goes: the stretch that it lies in, the index of the part there, and what the part gets. `parts` are the indices as they are stored
abbrev pub choice : List Interval → List Float → List Float → List Interval → List Float → Chosen
choice domain parts bounds encode inputs =
    let x = first (clamp_all domain inputs) in
    let i = pick bounds x in
    record { stretch = i; part = cut_unsigned 32 (slice_index_or parts i nan); input = part_input (first_pair domain) bounds encode x i }

-- the same for a loaded one, by its parts of the number list
abbrev pub stored_choice : Type3 → List Float → Chosen
stored_choice t inputs = choice (pairs_of t.domain.now) t.parts.now t.bounds.now (pairs_of t.encode.now) inputs

-- The rule that `pick` comes to: the Domain's second number belongs to the last part, any other input of the Domain to the part whose
-- stretch holds it, the upper bound left out.
abbrev pub belongs : Interval → List Float → Float → ℕ → Bool
belongs domain bounds x i =
    cond (eq x domain.1)
    (i == length bounds)
    (nat_le i (length bounds) && (le (stretch domain bounds i).0 x && lt x (stretch domain bounds i).1))

-- Exactly one part: for every Domain and Bounds that pass the checks, a number x of the Domain belongs to the part r and to no other.
abbrev pub OnlyPart : List Float → Float → ℕ → Type 0
OnlyPart bounds x r =
    (domain : Interval) → T (fits binary32 domain.0) → T (fits binary32 domain.1) → ordered domain ≡ true → bounds_rise domain.0 domain.1 bounds ≡ true → within domain x ≡ true
    → (i : ℕ) → belongs domain bounds x i ≡ (i == r)

-- the same of a clamped input, for the Domain that clamps it
abbrev pub OnlyStretch : List Interval → List Float → List Float → ℕ → Type 0
OnlyStretch domain bounds inputs r =
    ordered (first_pair domain) ≡ true → bounds_rise (first_pair domain).0 (first_pair domain).1 bounds ≡ true → 0 < length inputs
    → (i : ℕ) → belongs (first_pair domain) bounds (first (clamp_all domain inputs)) i ≡ (i == r)

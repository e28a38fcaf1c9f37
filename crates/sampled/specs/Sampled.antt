-- Sampled functions (type 0): what a caller gives, what is checked, and what they compute. Assumes nothing.
use Rattle.std.specs.Borrow.{Bor}
use Rattle.std.specs.Prelude.{◌≡◌, ℕ, suc, ◌+◌, ◌-◌, ◌*◌, ◌^◌, ◌<◌, Bool, true, false, cond, ◌&&◌, ◌||◌, List, [], ◌∷◌, ◌++◌, map, length, take, replicate, pos, is_some, Some, None, Ok, Err, Option, Result, ◌==◌, from_bits, is_nan, nat_le, Float}
use Rattle.std.specs.Float.{binary32}
use Rattle.std.specs.Float.Ieee.{add, sub, mul, lt, eq}
use Rattle.std.specs.List.{AllByRecursion}
use Rattle.fault.specs.Checks.{Check, check, fault}
use Rattle.fault.specs.declared.cause.Cause.TheVariants.{Count, NotFinite, UpsideDown, CountsDisagree, Size, NoTable, NoSample}
use Rattle.fault.specs.declared.cause.Fault.{Fault}
use Rattle.numeric.specs.Interval.{Interval, both_finite, rises, clamp_all, interpolate}
use Rattle.numeric.specs.Lists.{every, flat, pairs_of}
use Rattle.numeric.specs.Whole.{cut_unsigned, nearest_to}
use Rattle.units.specs.Samples.{Table, bits_of, width_in, sample_in}
use Rattle.units.specs.declared.samples.Width.{Width}
use Rattle.function.specs.Answer.{Answer}
use Rattle.function.specs.Evaluate.{clamp_outputs}
use Rattle.function.specs.Limits.{from_one_to, most_outputs, most_inputs, most_size, most_samples}
use Rattle.function.specs.Outputs.{over}
use Rattle.sampled.specs.declared.type0.Corner.{Corner}
use Rattle.sampled.specs.declared.type0.Sampled.{Sampled}
use Rattle.sampled.specs.declared.type0.Type0.{Type0}

abbrev pub zero : Float
zero = from_bits binary32 0

abbrev pub one : Float
one = from_bits binary32 1065353216

-- ---- what is given

-- an absent Encode takes each input from 0 to its Size - 1
abbrev pub whole_grid : List ℕ → List Interval
whole_grid sizes = map (λ size. (zero, nearest_to (pos (size - 1)))) sizes

abbrev pub pairs_or : Option (Bor (List Interval)) → List Interval → List Interval
pairs_or None default = default
pairs_or (Some pairs) default = pairs.now

abbrev pub encode_of : Sampled → List Interval
encode_of e = pairs_or e.encode (whole_grid e.sizes.now)

-- an absent Decode is the Range
abbrev pub decode_of : Sampled → List Interval
decode_of e = pairs_or e.decode e.range.now

-- ---- what is checked

-- the samples of a grid with so many outputs at each point
abbrev pub samples_needed : List ℕ → ℕ → ℕ
samples_needed [] outputs = outputs
samples_needed (size ∷ sizes) outputs = size * samples_needed sizes outputs

abbrev pub sizes_fit : List ℕ → ℕ → Bool
sizes_fit sizes outputs = every (from_one_to most_size) sizes && nat_le (samples_needed sizes outputs) most_samples

abbrev pub grid_counts : List Interval → List ℕ → List Interval → Bool
grid_counts domain sizes range = from_one_to most_inputs (length domain) && (from_one_to most_inputs (length sizes) && from_one_to most_outputs (length range))

abbrev pub grid_finite : List Interval → List Interval → List Interval → List Interval → Bool
grid_finite domain range encode decode = every both_finite domain && (every both_finite range && (every both_finite encode && every both_finite decode))

-- a Size and an Encode pair for each input, a Decode pair for each output
abbrev pub grid_agrees : List Interval → List Interval → List ℕ → List Interval → List Interval → Bool
grid_agrees domain range sizes encode decode = length sizes == length domain && (length encode == length domain && length decode == length range)

abbrev pub sampled_checks : ℕ → List Interval → List Interval → List ℕ → List Interval → List Interval → List Check
sampled_checks index domain range sizes encode decode =
    check (grid_counts domain sizes range) (fault Count index)
    ∷ check (grid_finite domain range encode decode) (fault NotFinite index)
    ∷ check (every rises domain && every rises range) (fault UpsideDown index)
    ∷ check (grid_agrees domain range sizes encode decode) (fault CountsDisagree index)
    ∷ check (sizes_fit sizes (length range)) (fault Size index)
    ∷ []

-- the table is in the unit
abbrev pub table_check : List Table → ℕ → ℕ → Check
table_check tables index table = check (is_some (width_in tables table)) (fault NoTable index)

-- ---- the numbers that it is stored as, behind its Domain and Range

abbrev pub size_numbers : List ℕ → List Float
size_numbers sizes = map (λ size. nearest_to (pos size)) sizes

abbrev pub own_numbers : List ℕ → List Interval → List Interval → List Float
own_numbers sizes encode decode = size_numbers sizes ++ (flat encode ++ flat decode)

-- a pair takes two entries, a Size one
abbrev pub entries_of : List Interval → List Interval → List ℕ → List Interval → List Interval → ℕ
entries_of domain range sizes encode decode = 2 * length domain + 2 * length range + length sizes + 2 * length encode + 2 * length decode

abbrev pub given_checks : ℕ → Sampled → List Check
given_checks index e = sampled_checks index e.domain.now e.range.now e.sizes.now (encode_of e) (decode_of e)

abbrev pub given_entries : Sampled → ℕ
given_entries e = entries_of e.domain.now e.range.now e.sizes.now (encode_of e) (decode_of e)

-- ---- what is computed

-- a NaN and what is below 0 become 0
abbrev pub raised : Float → Float
raised v = cond (is_nan v || lt v zero) zero v

abbrev pub lowered : Float → Float → Float
lowered top v = cond (lt top v) top v

-- where an input lies on the grid of its dimension: from 0 to Size - 1
abbrev pub key : Float → Interval → Interval → ℕ → Float
key v domain encode size = lowered (nearest_to (pos (size - 1))) (raised (interpolate v domain encode))

-- as far as all four lists go
abbrev pub keys : List Interval → List Interval → List ℕ → List Float → List Float
keys [] es ss vs = []
keys (d ∷ ds) [] ss vs = []
keys (d ∷ ds) (e ∷ es) [] vs = []
keys (d ∷ ds) (e ∷ es) (s ∷ ss) [] = []
keys (d ∷ ds) (e ∷ es) (s ∷ ss) (v ∷ vs) = key v d e s ∷ keys ds es ss vs

-- a grid point around the keys: its weight, and the place of its first sample in the table
abbrev pub corner : Float → ℕ → Corner
corner weight offset = record { weight = weight; offset = offset }

-- the neighbour below a key, and how far the key lies beyond it
abbrev pub below : Float → ℕ
below k = cut_unsigned 32 k

abbrev pub beyond : Float → Float
beyond k = sub binary32 k (nearest_to (pos (below k)))

-- a corner, taken on to the next input: a whole key has one neighbour, any other two, the lower before the upper
abbrev pub split : Float → ℕ → Corner → List Corner
split k stride c =
    cond (eq (beyond k) zero)
    (corner c.weight (c.offset + below k * stride) ∷ [])
    (corner (mul binary32 c.weight (sub binary32 one (beyond k))) (c.offset + below k * stride) ∷ corner (mul binary32 c.weight (beyond k)) (c.offset + suc (below k) * stride) ∷ [])

abbrev pub spread : Float → ℕ → List Corner → List Corner
spread k stride [] = []
spread k stride (c ∷ cs) = split k stride c ++ spread k stride cs

-- inputs are taken first to last; a stride is the one before times the Size before
abbrev pub corners_from : List Float → List ℕ → ℕ → List Corner → List Corner
corners_from [] sizes stride cs = cs
corners_from (k ∷ ks) [] stride cs = cs
corners_from (k ∷ ks) (size ∷ sizes) stride cs = corners_from ks sizes (stride * size) (spread k stride cs)

-- from a weight of 1; the first stride is the number of outputs
abbrev pub corners : List Float → List ℕ → ℕ → List Corner
corners ks sizes outputs = corners_from ks sizes outputs (corner one 0 ∷ [])

abbrev pub corners_at : List Interval → List ℕ → List Interval → ℕ → List Float → List Corner
corners_at domain sizes encode outputs xs = corners (keys domain encode sizes xs) sizes outputs

-- the sums after one more corner, or the index of the first sample that the table lacks
abbrev pub add_by : Option ℕ → Float → Float → ℕ → Result (List Float) ℕ → Result (List Float) ℕ
add_by None weight y at rest = Err at
add_by (Some sample) weight y at (Ok ys) = Ok (add binary32 y (mul binary32 weight (nearest_to (pos sample))) ∷ ys)
add_by (Some sample) weight y at (Err place) = Err place

abbrev pub add_corner : List Table → ℕ → Float → ℕ → List Float → Result (List Float) ℕ
add_corner tables table weight at [] = Ok []
add_corner tables table weight at (y ∷ ys) = add_by (sample_in tables table at) weight y at (add_corner tables table weight (at + 1) ys)

abbrev pub on_sums : (List Float → Result (List Float) ℕ) → Result (List Float) ℕ → Result (List Float) ℕ
on_sums f (Ok ys) = f ys
on_sums f (Err place) = Err place

-- each corner in turn adds weight * sample to each sum
abbrev pub add_corners : List Table → ℕ → List Corner → List Float → Result (List Float) ℕ
add_corners tables table [] ys = Ok ys
add_corners tables table (c ∷ cs) ys = on_sums (add_corners tables table cs) (add_corner tables table c.weight c.offset ys)

-- the largest sample of a table as a float, which a table that is missing has not
abbrev pub top_of : Option Width → Float
top_of None = zero
top_of (Some w) = nearest_to (pos (2 ^ bits_of w - 1))

-- sums, taken from 0 and the largest sample to Decode
abbrev pub decoded : Float → List Interval → List Float → List Float
decoded top [] ys = []
decoded top (d ∷ ds) [] = []
decoded top (d ∷ ds) (y ∷ ys) = interpolate y (zero, top) d ∷ decoded top ds ys

-- why a function with that index cannot be computed without the sample at the place
abbrev pub no_sample : ℕ → ℕ → Fault
no_sample index place = record { cause = NoSample; index = index; place = place }

abbrev pub sampled_by : ℕ → Float → List Interval → ℕ → Result (List Float) ℕ → Result Answer Fault
sampled_by index top decode visited (Ok ys) = Ok (record { outputs = decoded top decode ys; steps = 1 + visited; drops = 0 })
sampled_by index top decode visited (Err place) = Err (no_sample index place)

-- what a sampled function makes of its clamped inputs, Range not yet applied: one step, and one for each corner
abbrev pub sampled_answer : List Table → ℕ → List Interval → List ℕ → List Interval → List Interval → ℕ → List Float → Result Answer Fault
sampled_answer tables index domain sizes encode decode table xs =
    let cs = corners_at domain sizes encode (length decode) xs in
    sampled_by index (top_of (width_in tables table)) decode (length cs) (add_corners tables table cs (replicate (length decode) zero))

-- ---- a loaded one, by its parts of the number list

abbrev pub sizes_in : List Float → List ℕ
sizes_in numbers = map (cut_unsigned 32) numbers

abbrev pub shape_fits : List Interval → List ℕ → List Interval → List Interval → ℕ → Bool
shape_fits domain sizes encode decode inputs =
    from_one_to most_inputs inputs && (length domain == inputs && (length sizes == inputs && (length encode == inputs && from_one_to most_outputs (length decode))))

-- so many inputs can be computed with: what loading tests, as far as computing needs it
abbrev pub evaluable : List Interval → List ℕ → List Interval → List Interval → ℕ → Bool
evaluable domain sizes encode decode inputs = shape_fits domain sizes encode decode inputs && sizes_fit sizes (length decode)

abbrev pub ranged : List Interval → Result Answer Fault → Result Answer Fault
ranged range (Ok a) = Ok (clamp_outputs range a)
ranged range (Err e) = Err e

abbrev pub evaluable_by : Type0 → ℕ → Bool
evaluable_by t inputs = evaluable (pairs_of t.domain.now) (sizes_in t.sizes.now) (pairs_of t.encode.now) (pairs_of t.decode.now) inputs

abbrev pub loaded_answer : List Table → ℕ → Type0 → List Float → Result Answer Fault
loaded_answer tables index t xs =
    let domain = pairs_of t.domain.now in
    cond (evaluable_by t (length xs))
    (ranged (pairs_of t.range.now) (sampled_answer tables index domain (sizes_in t.sizes.now) (pairs_of t.encode.now) (pairs_of t.decode.now) t.table (clamp_all domain xs)))
    (Err (fault Size index))

-- a refusal writes nothing
abbrev pub outputs_after : Result Answer Fault → List Float → List Float
outputs_after (Ok a) old = over a.outputs old
outputs_after (Err e) old = old

-- ---- what the parts of an evaluation answer

-- its Sizes, where it can be computed
abbrev pub OwnSizes : Type0 → ℕ → Option (List ℕ) → Type 0
OwnSizes t inputs (Some sizes) = (evaluable_by t inputs ≡ true) × (take inputs sizes ≡ sizes_in t.sizes.now)
OwnSizes t inputs None = evaluable_by t inputs ≡ false

abbrev pub OffsetsBelow : ℕ → List Corner → Type 0
OffsetsBelow n cs = AllByRecursion (λ c. c.offset < n) cs

-- what a sum over corners answers, for a function with that index, and what the list of sums holds after
abbrev pub Summed : ℕ → Result (List Float) ℕ → List Float → Result (Unit {0}) Fault → Type 0
Summed index sums new (Ok _) = sums ≡ Ok new
Summed index sums new (Err e) = (sums ≡ Err e.place) × (e ≡ no_sample index e.place)

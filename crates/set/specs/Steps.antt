-- What each call does to a set and answers, as functions of the set's model. Assumes nothing.
use Rattle.std.specs.Prelude.{◌≡◌, ℕ, ◌-◌, Bool, true, false, ◌&&◌, List, [], ◌∷◌, ◌++◌, length, drop, Some, None, Ok, Err, Option, Result, ◌==◌, nat_le, nat_lt, slice_index_or, Float}
use Rattle.std.specs.Float.{nan}
use Rattle.fault.specs.Checks.{Check, check, fault, first_fault, passes}
use Rattle.fault.specs.declared.cause.Cause.TheVariants.{SetList, Room, NoFunction, InputCount, OutputList}
use Rattle.fault.specs.declared.cause.Fault.{Fault}
use Rattle.numeric.specs.Interval.{Interval}
use Rattle.function.specs.Answer.{Answer, Meaning, counts_of}
use Rattle.function.specs.Evaluate.{run}
use Rattle.function.specs.Exponential.{exponential_checks}
use Rattle.function.specs.Function.{Function, Body, exponential}
use Rattle.function.specs.Limits.{from_one_to, full_list}
use Rattle.function.specs.Numbers.{numbers_of}
use Rattle.function.specs.declared.counts.Counts.{Counts}
use Rattle.set.specs.Model.{Entries, entries, Model}

-- ---- opening

-- the longest lists that a set is opened over
abbrev pub longest : Entries
longest = entries 256 16384 4096

abbrev pub opens : Entries → Bool
opens given = from_one_to longest.functions given.functions && (from_one_to longest.numbers given.numbers && from_one_to longest.instructions given.instructions)

-- lists of these lengths are refused by e
abbrev pub IsRefused : Entries → Fault → Type 0
IsRefused given e = (opens given ≡ false) × (e ≡ fault SetList 0)

-- a set just opened
abbrev pub opened : Entries → Model
opened given = record { functions = []; free = given }

-- ---- loading

pub record Done (Reply : Type 0) : Type 0 where
  pub reply : Reply
  pub after : Model

abbrev pub body_checks : ℕ → List Interval → List Interval → Body → List Check
body_checks index domain range (exponential c0 c1 n) = exponential_checks index domain range c0 c1 n

-- what a function must be to be loaded behind the earlier ones
abbrev pub function_checks : List Function → Function → List Check
function_checks earlier f = body_checks (length earlier) f.domain f.range f.body

-- no kind stores instructions so far
abbrev pub needs : Function → Entries
needs f = entries 1 (length (numbers_of f)) 0

abbrev pub has_room : Entries → Entries → Bool
has_room needed free = nat_le needed.functions free.functions && (nat_le needed.numbers free.numbers && nat_le needed.instructions free.instructions)

abbrev pub load_checks : Model → Function → List Check
load_checks m f = function_checks m.functions f ++ (check (has_room (needs f) m.free) (fault Room (length m.functions)) ∷ [])

abbrev pub left : Entries → Entries → Entries
left free needed = entries (free.functions - needed.functions) (free.numbers - needed.numbers) (free.instructions - needed.instructions)

abbrev pub loaded : Model → Function → Model
loaded m f = record { functions = m.functions ++ (f ∷ []); free = left m.free (needs f) }

abbrev pub load_by : Model → Function → Option Fault → Done (Result ℕ Fault)
load_by m f (Some e) = record { reply = Err e; after = m }
load_by m f None = record { reply = Ok (length m.functions); after = loaded m f }

-- loading answers the next index
abbrev pub load_step : Function → Model → Done (Result ℕ Fault)
load_step f m = load_by m f (first_fault (load_checks m f))

-- each loaded function passes the checks behind those before it
abbrev pub admitted : List Function → List Function → Bool
admitted earlier [] = true
admitted earlier (f ∷ fs) = passes (function_checks earlier f) && admitted (earlier ++ (f ∷ [])) fs

-- ---- evaluating

abbrev pub nothing : Function
nothing = record { domain = []; range = []; body = exponential [] [] nan }

abbrev pub at : List Function → ℕ → Function
at fs i = slice_index_or fs i nothing

-- the checks of evaluating the function i on so many inputs into a list of so many places
abbrev pub call_checks : List Function → ℕ → ℕ → ℕ → List Check
call_checks fs i inputs room =
    check (nat_lt i (length fs)) (fault NoFunction i)
    ∷ check (inputs == length (at fs i).domain) (fault InputCount i)
    ∷ check (nat_le full_list room) (fault OutputList i)
    ∷ []

abbrev pub answer_by : Option Fault → Answer → Result Answer Fault
answer_by (Some e) a = Err e
answer_by None a = Ok a

abbrev pub answer : List Function → Meaning → ℕ → List Float → ℕ → Result Answer Fault
answer fs μ i xs room = answer_by (first_fault (call_checks fs i (length xs) room)) (run μ (at fs i) xs)

-- what the caller is told
abbrev pub reply_of : Result Answer Fault → Result Counts Fault
reply_of (Ok a) = Ok (counts_of a)
reply_of (Err e) = Err e

-- what the caller's list holds after: the outputs in front, the rest as it was
abbrev pub written : Result Answer Fault → List Float → List Float
written (Ok a) ys = a.outputs ++ drop (length a.outputs) ys
written (Err e) ys = ys

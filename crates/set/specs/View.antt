-- What the lent lists of a set stand for. Assumes nothing.
use Rattle.std.specs.Prelude.{ℕ, ◌+◌, Bool, ◌&&◌, List, map, length, nat_le, nat_lt, slice_index_or, slice_range, Float}
use Rattle.std.specs.Float.{nan}
use Rattle.numeric.specs.Lists.{flat, pairs_of}
use Rattle.function.specs.Function.{Function, Body, exponential}
use Rattle.function.specs.Numbers.{body_numbers}
use Rattle.function.specs.declared.record.Kind.{Kind}
use Rattle.function.specs.declared.record.Kind.TheVariants.{Exponential}
use Rattle.function.specs.declared.record.Record.{Record}

-- ---- from the lists to functions

abbrev pub body_at : List Float → ℕ → Kind → Body
body_at numbers own (Exponential c1 n) = exponential (slice_range numbers own c1) (slice_range numbers c1 n) (slice_index_or numbers n nan)

abbrev pub function_at : List Float → Record → Function
function_at numbers r = record {
  domain = pairs_of (slice_range numbers r.domain r.range);
  range = pairs_of (slice_range numbers r.range r.own);
  body = body_at numbers r.own r.kind;
}

abbrev pub functions_in : List Record → List Float → List Function
functions_in records numbers = map (function_at numbers) records

-- ---- from a function to its record

abbrev pub kind_of : ℕ → Body → Kind
kind_of own (exponential c0 c1 n) = Exponential (own + length c0) (own + length c0 + length c1)

-- the record of a function whose numbers begin at `at`
abbrev pub record_of : ℕ → Function → Record
record_of at f =
    let range = at + length (flat f.domain) in
    let own = range + length (flat f.range) in
    record { kind = kind_of own f.body; domain = at; range = range; own = own; end = own + length (body_numbers f.body) }

-- ---- records in order

abbrev pub kind_placed : Record → Kind → Bool
kind_placed r (Exponential c1 n) = nat_le r.own c1 && (nat_le c1 n && nat_lt n r.end)

-- the record's places rise, and end within what is used
abbrev pub placed : ℕ → Record → Bool
placed used r = nat_le r.domain r.range && (nat_le r.range r.own && (nat_le r.own r.end && (nat_le r.end used && kind_placed r r.kind)))

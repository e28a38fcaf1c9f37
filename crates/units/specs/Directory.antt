-- The directory of a sample unit: the stretch of a list that each table is, and what is checked. Assumes nothing.
use Rattle.std.specs.Prelude.{ℕ, suc, ◌+◌, ◌^◌, ◌<◌, Bool, List, [], ◌∷◌, ◌++◌, map, length, take, drop, is_some, All, unwrap_or, nat_le}
use Rattle.fault.specs.Checks.{Check, check, fault}
use Rattle.fault.specs.declared.cause.Cause.TheVariants.{UnitShape, UnitStretch}
use Rattle.units.specs.Samples.{Table, bits_of, width_from, most_tables}
use Rattle.units.specs.declared.directory.Stretch.{Stretch}
use Rattle.units.specs.declared.samples.Width.{Width}
use Rattle.units.specs.declared.samples.Width.TheVariants.{One}

-- what a stretch covers of a list
abbrev pub covered : {A : Type 0} → Stretch → List A → List A
covered s xs = take s.length (drop s.start xs)

abbrev pub is_width : ℕ → Bool
is_width bits = is_some (width_from bits)

-- the width of so many bits; in a directory that passes the checks there is one
abbrev pub width_of : ℕ → Width
width_of bits = unwrap_or (width_from bits) One

-- the tables of a directory, where entries spell samples of a width
abbrev pub table_of : {A : Type 0} → (Width → List A → List ℕ) → List A → Stretch → Table
table_of samples entries s = record { width = width_of s.width; samples = samples (width_of s.width) (covered s entries) }

abbrev pub tables_of : {A : Type 0} → (Width → List A → List ℕ) → List A → List Stretch → List Table
tables_of samples entries directory = map (table_of samples entries) directory

-- ---- what is checked

-- the checks of each of a list, one after the other; the first is number i
abbrev pub for_each : {A : Type 0} → (ℕ → A → List Check) → ℕ → List A → List Check
for_each f i [] = []
for_each f i (x ∷ xs) = f i x ++ for_each f (suc i) xs

abbrev pub width_checks : ℕ → Stretch → List Check
width_checks table s = check (is_width s.width) (fault UnitShape table) ∷ []

abbrev pub inside_check : ℕ → ℕ → Stretch → Check
inside_check n table s = check (nat_le (s.start + s.length) n) (fault UnitStretch table)

-- of entry i of a table that starts there: that it fits; the place is the entry's in the whole list
abbrev pub fit_checks : {A : Type 0} → (A → Bool) → ℕ → ℕ → ℕ → A → List Check
fit_checks fits table start i e = check (fits e) (record { cause = UnitStretch; index = table; place = start + i }) ∷ []

-- of a table in a list of entries: that it lies there, and then that each entry that it covers fits its width
abbrev pub entry_checks : {A : Type 0} → (Width → A → Bool) → List A → ℕ → Stretch → List Check
entry_checks can_hold entries table s = inside_check (length entries) table s ∷ for_each (fit_checks (can_hold (width_of s.width)) table s.start) 0 (covered s entries)

-- the number of tables, then every width, and only then what each unit checks of a table
abbrev pub directory_checks : (ℕ → Stretch → List Check) → List Stretch → List Check
directory_checks f directory = check (nat_le (length directory) most_tables) (fault UnitShape 0) ∷ (for_each width_checks 0 directory ++ for_each f 0 directory)

-- all that is checked of a unit: its directory, and the entries of each table
abbrev pub unit_checks : {A : Type 0} → (Width → A → Bool) → List A → List Stretch → List Check
unit_checks can_hold entries directory = directory_checks (entry_checks can_hold entries) directory

-- the samples of a table have no more bits than its width
abbrev pub SamplesFit : {A : Type 0} → (Width → List A → List ℕ) → List A → Stretch → Type 0
SamplesFit samples entries s = All (λ n. n < 2 ^ bits_of (width_of s.width)) (samples (width_of s.width) (covered s entries))

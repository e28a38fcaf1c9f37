-- What a line says. Assumes nothing.
use Rattle.std.specs.Prelude.{◌≡◌, ℕ, ◌≤◌, ◌⊎◌, List, [], ◌∷◌, ◌++◌, Some, None, vec_items, codes, Option, ◌≢◌, slice_index}
use Rattle.command.specs.declared.line.Command.{Command}
use Rattle.command.specs.declared.line.Command.TheVariants.{Reset, Open, House, Ask, Exponential, Evaluate}
use Rattle.command.specs.Cutting.{first_word, after_word}
use Rattle.command.specs.Fields.{OneNumber, OneWhole, Numbers}
use Rattle.command.specs.Loads.{Loads}

-- the first word of a command
abbrev pub spelled : Command → List ℕ
spelled Reset = codes "reset"
spelled (Open functions numbers instructions) = codes "open"
spelled House = codes "arith"
spelled (Ask code x y) = codes "ask"
spelled (Exponential line) = codes "exponential"
spelled (Evaluate index room inputs) = codes "eval"

-- the words of s, up to what is left in t, say the rest of it
abbrev pub Means : List ℕ → List ℕ → Command → Type 0
Means s t Reset = t ≡ s
Means s t (Open functions numbers instructions) = (u : List ℕ) × (v : List ℕ) × OneWhole s functions u × OneWhole u numbers v × OneWhole v instructions t
Means s t House = (first_word s ≡ Some (codes "house")) × (t ≡ after_word s)
Means s t (Ask code x y) = (u : List ℕ) × (v : List ℕ) × OneWhole s code u × OneNumber u x v × OneNumber v y t
Means s t (Exponential line) = Loads line s t
Means s t (Evaluate index room inputs) = (u : List ℕ) × (v : List ℕ) × OneWhole s index u × OneWhole u room v × Numbers v (vec_items inputs) t

-- a code that is asked for is from 1 to 7
abbrev pub Known : Command → Type 0
Known Reset = Unit {0}
Known (Open functions numbers instructions) = Unit {0}
Known House = Unit {0}
Known (Ask code x y) = (1 ≤ code) × (code ≤ 7)
Known (Exponential line) = Unit {0}
Known (Evaluate index room inputs) = Unit {0}

-- c is the command of that name, and the words of s, up to what is left in t, say the rest of it
pub record IsCommand (name s t : List ℕ) (c : Command) : Type 0 where
  pub named : spelled c ≡ name
  pub means : Means s t c
  pub known : Known c

abbrev pub KnownIfAny : Option Command → Type 0
KnownIfAny None = Unit {0}
KnownIfAny (Some c) = Known c

-- a carriage return at a line's end is no part of it
abbrev pub Unreturned : List ℕ → List ℕ → Type 0
Unreturned line s = (line ≡ s ++ (13 ∷ [])) ⊎ ((s ≡ line) × ((front : List ℕ) → line ≢ front ++ (13 ∷ [])))

-- a line with no word, or whose first begins with `#`, says nothing
abbrev pub Silent : Option (List ℕ) → Type 0
Silent None = Unit {0}
Silent (Some w) = slice_index w 0 ≡ 35

-- what the line s says, to its last word
abbrev pub Says : List ℕ → Option Command → Type 0
Says s None = Silent (first_word s)
Says s (Some c) = (first_word s ≡ Some (spelled c)) × ((t : List ℕ) × Means (after_word s) t c × (first_word t ≡ None))

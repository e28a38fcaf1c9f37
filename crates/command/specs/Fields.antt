-- What the numbers and the fields of a line come to. In each, s is the text before and t what is left of it. Assumes nothing.
use Rattle.std.specs.Prelude.{◌≡◌, ℕ, ◌%◌, List, [], ◌∷◌, length, Some, None, Float, slice_index_or}
use Rattle.std.specs.Float.{nan}
use Rattle.command.specs.Cutting.{after_word, field_word}
use Rattle.numerals.specs.Numbers.{ReadsNumber, Whole}

-- the next word of the field is w
abbrev pub Next : List ℕ → List ℕ → List ℕ → Type 0
Next s w t = (field_word s ≡ Some w) × (t ≡ after_word s)

-- and it writes the number x, or the whole number n
abbrev pub OneNumber : List ℕ → Float → List ℕ → Type 0
OneNumber s x t = (w : List ℕ) × Next s w t × ReadsNumber w (Some x)

abbrev pub OneWhole : List ℕ → ℕ → List ℕ → Type 0
OneWhole s n t = (w : List ℕ) × Next s w t × Whole w n

-- the words up to the field's end write the numbers xs
pub data Numbers : List ℕ → List Float → List ℕ → Type 0 where
  no_number : {s t : List ℕ} → field_word s ≡ None → t ≡ s → Numbers s [] t
  number : {s u t : List ℕ} {x : Float} {xs : List Float} → OneNumber s x u → Numbers u xs t → Numbers s (x ∷ xs) t

-- the numbers two by two; one that is left over is left out. Of its own, since a line's words rest on numerals alone.
abbrev pub paired : List Float → List (Float × Float)
paired [] = []
paired (x ∷ []) = []
paired (x ∷ y ∷ xs) = (x, y) ∷ paired xs

-- two numbers as a pair
abbrev pub pair_of : List Float → Float × Float
pair_of xs = (slice_index_or xs 0 nan, slice_index_or xs 1 nan)

-- they are an even count of numbers, and ps are their pairs
abbrev pub Pairs : List ℕ → List (Float × Float) → List ℕ → Type 0
Pairs s ps t = (xs : List Float) × Numbers s xs t × (length xs % 2 ≡ 0) × (ps ≡ paired xs)

-- they are the one number x
abbrev pub Alone : List ℕ → Float → List ℕ → Type 0
Alone s x t = OneNumber s x t × (field_word t ≡ None)

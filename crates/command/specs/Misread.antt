-- Why a word is not understood. Assumes nothing.
use Rattle.std.specs.Prelude.{◌≡◌, ℕ, List}
use Rattle.std.specs.declared.num.IntErrorKind.{IntErrorKind}
use Rattle.std.specs.declared.num.IntErrorKind.TheVariants.{PosOverflow}
use Rattle.command.specs.declared.misread.LineError.{LineError}
use Rattle.command.specs.declared.misread.LineError.TheVariants.{AtWord, OutOfMemory}
use Rattle.command.specs.declared.misread.Misread.{Misread}
use Rattle.command.specs.declared.misread.Misread.TheVariants.{TooLarge, NotWhole}

-- what is wrong with a word that is no whole number of the type
abbrev pub not_whole : IntErrorKind → Misread
not_whole PosOverflow = TooLarge
not_whole _ = NotWhole

-- the error is at that word of the line
abbrev pub Names : List ℕ → LineError → Type 0
Names w (AtWord what word) = word.now ≡ w
Names w (OutOfMemory e) = ⊥

-- What the unit that reads recorded answers replies. Assumes nothing.
use Rattle.std.specs.Prelude.{Bool, cond, ◌&&◌, List, [], ◌∷◌, ◌==◌, to_bits, Float}
use Rattle.std.specs.Float.{nan, binary32}
use Rattle.units.specs.Question.{code_of}
use Rattle.units.specs.declared.question.Question.{Question}
use Rattle.units.specs.declared.recorded.Answered.{Answered}

-- the same bits, where all NaNs have one pattern: so NaN for NaN, and the two zeros apart
abbrev pub same_operand : Float → Float → Bool
same_operand x y = to_bits binary32 x == to_bits binary32 y

-- the record has the question's code and the same operands
abbrev pub fitting : Question → Float → Float → Answered → Bool
fitting question x y item = item.code == code_of question && (same_operand item.x x && same_operand item.y y)

-- the first record that fits answers; where none does, NaN
abbrev pub recorded : List Answered → Question → Float → Float → Float
recorded [] question x y = nan
recorded (item ∷ items) question x y = cond (fitting question x y item) item.answer (recorded items question x y)

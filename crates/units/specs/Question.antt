-- The questions that a function puts to an arithmetic unit. Assumes nothing.
use Rattle.std.specs.Prelude.{◌≡◌, ℕ, List, ◌++◌, Some, None, Option, Result, MatchResult, ◌≢◌, codes, decimal}
use Rattle.units.specs.declared.question.Question.{Question}
use Rattle.units.specs.declared.question.Question.TheVariants as question
use Rattle.units.specs.declared.question.UnknownCode.{UnknownCode}

-- the code of a question: root, power, natural and decimal logarithm, sine and cosine of degrees, and atan's finished answer
abbrev pub code_of : Question → ℕ
code_of question.Root = 1
code_of question.Power = 2
code_of question.Ln = 3
code_of question.Log = 4
code_of question.Sine = 5
code_of question.Cosine = 6
code_of question.Atan = 7

-- the question that a code stands for: none where no question has it
abbrev pub Coded : ℕ → Option Question → Type 0
Coded code None = (q : Question) → code_of q ≢ code
Coded code (Some q) = code_of q ≡ code

-- that question, or the code itself where no question has it
abbrev pub Decodes : ℕ → Result Question UnknownCode → Type 0
Decodes code r = MatchResult r (λ q. Coded code (Some q)) (λ unknown. Coded code None × (unknown.0 ≡ code))

abbrev pub unknown_code_text : UnknownCode → List ℕ
unknown_code_text unknown = codes "no question has the code " ++ decimal unknown.0

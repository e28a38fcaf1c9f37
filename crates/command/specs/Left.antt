-- What of a line is still to be read.
use Rattle.std.specs.Prelude.{◌≡◌, ℕ, List, Option}
use Rattle.std.specs.Borrow.{Bor}
use Rattle.std.specs.Option.{option_map}
use Rattle.command.specs.declared.words.Words.{Words}
use Rattle.command.specs.Cutting.{first_word, after_word}

abbrev pub text : Words → List ℕ
text w = w.rest.now

-- r is the first word of what v has left, if there is one, and w has what follows it
pub record GivesWord (v : Words) (r : Option (Bor (List ℕ))) (w : Words) : Type 0 where
  pub word : option_map (λ x. x.now) r ≡ first_word (text v)
  pub rest : text w ≡ after_word (text v)

use Rattle.std.proofs.Common.{length, sym, ap, arith}
use Rattle.command.specs.Left.{text}
use Rattle.command.proofs.Cuts.{no_word, bare_word, a_word}
use Rattle.command.proofs.Shrinking.{word_shortens}
use Rattle.command.proofs.words.WordsIterator.next.Goals as goal

pub returns-then-is_empty-clause-steps : goal.returns-then-is_empty-clause-steps
returns-then-is_empty-clause-steps c =
    let told = no_word _ _ c.trim_start_matches-rest.ensures.matches c.if-is_empty.ensures in
    record { word = told.0; rest = told.1 }

pub split_word-requires : goal.split_word-requires
split_word-requires c = bare_word _ _ c.trim_start_matches-rest.ensures.matches c.if-is_empty.ensures

pub returns-clause-steps : goal.returns-clause-steps
returns-clause-steps c =
    let told = a_word _ _ _ _ c.trim_start_matches-rest.ensures.matches c.if-is_empty.ensures c.split_word.ensures.word c.split_word.ensures.rest in
    record { word = told.0; rest = told.1 }

pub returns-clause-goes : goal.returns-clause-goes
returns-clause-goes c =
    let told = returns-clause-steps c in
    record {
      on = λ finite. (tt, finite, omega (arith, ap length told.rest, word_shortens (text c.args.self.now) _ (sym told.word)));
      keeps = tt;
      rests = λ finite. tt;
    }

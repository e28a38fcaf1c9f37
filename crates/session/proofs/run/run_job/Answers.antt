use Rattle.std.proofs.Common.{rules, ◌≡◌, map, subst, sym, ap, ◌∙◌, string_bytes}
use Rattle.std.specs.Prelude.{IfOk}
use Rattle.std.specs.List.{All}
use Rattle.std.specs.Str.Lines.{lines}
use Rattle.std.specs.Slice.Iter.{iter_rest}
use Rattle.std.specs.Iterator.Adapters.{enumerate_source}
use Rattle.std.proofs.lemmas.Iterator.Splits.{YieldsList-from_lines}
use Rattle.std.proofs.lemmas.Iterator.Consumers.{map_from_collect}
use Rattle.session.specs.Jobs.{IsUnderstood, IsSilent}
use Rattle.session.proofs.Reading.{left_at_first}
use Rattle.session.proofs.run.run_job.Goals as goal
use Rattle.session.proofs.run.run_job.Goals.{After-drop-lines-2, in-Ok, in-Err-Line+in_ok-format-in-Err-Line}

left : (c : After-drop-lines-2) → map (λ l. l.now) (iter_rest (enumerate_source c.enumerate.result)) ≡ lines c.args.text.now
left c =
    let cut : map (λ l. l.now) c.in_ok-lines.lines.items ≡ lines c.args.text.now =
    subst (λ r. IfOk r (λ v. map (λ l. l.now) v.items ≡ lines c.args.text.now)) c.in_ok-lines.was (map_from_collect c.collect.result c.collect.ensures.ran (YieldsList-from_lines c.args.text.now c.lines.ensures.rest))
    in left_at_first c.in_ok-lines.lines.items _ _ (search rules) cut

pub returns-clause-understood : goal.returns-clause-understood
returns-clause-understood c = λ none. elim c.match-run.branch [
  | in-Ok w ↦ subst (All IsUnderstood) (left c) w.in-Ok.ensures.understood
  | in-Err-Line+in_ok-format-in-Err-Line w ↦ absurd cc
]

pub returns-clause-silent : goal.returns-clause-silent
returns-clause-silent c = λ silent.
    let passed = c.run.ensures.silent (subst (All IsSilent) (sym (left c)) silent)
    in elim c.match-run.branch [
      | in-Ok w ↦ (search rules, ap string_bytes passed.1.unwritten ∙ c.new.ensures.bytes)
      | in-Err-Line+in_ok-format-in-Err-Line w ↦ absurd (search (rules, passed.0))
    ]

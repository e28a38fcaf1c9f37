use Rattle.std.proofs.Common.{rules, ◌≡◌}
use Rattle.std.specs.Prelude.{Ok, None}
use Rattle.std.specs.Slice.Iter.{iter_rest}
use Rattle.std.specs.Iterator.Adapters.{enumerate_source}
use Rattle.session.proofs.Reading.{ReadsOn_line, ReadsOn_further, first_silent, others_silent}
use Rattle.session.proofs.run.Job.next_call.Goals as goal

pub returns-in-Some-command-clause-reads : goal.returns-in-Some-command-clause-reads
returns-in-Some-command-clause-reads c =
    ReadsOn_further _ _ _ c.loop-at.invariant.0 (ReadsOn_line c.in-Some.line.now _ _ c.in_ok-command.command c.read_line.result (search rules) (search rules) c.read_line.ensures.says)

pub returns-in_err-command-clause-silent : goal.returns-in_err-command-clause-silent
returns-in_err-command-clause-silent c = λ silent.
    let read : c.read_line.result ≡ Ok None =
    first_silent c.in-Some.line.now (iter_rest (enumerate_source c.next.new.self)) (iter_rest (enumerate_source c.loop-at.self.lines)) _ (search rules) c.read_line.ensures.silent (c.loop-at.invariant.1 silent).0
    in absurd (search (rules, read))

pub returns-in-Some-command-clause-silent : goal.returns-in-Some-command-clause-silent
returns-in-Some-command-clause-silent c = λ silent.
    let read : c.read_line.result ≡ Ok None =
    first_silent c.in-Some.line.now (iter_rest (enumerate_source c.next.new.self)) (iter_rest (enumerate_source c.loop-at.self.lines)) _ (search rules) c.read_line.ensures.silent (c.loop-at.invariant.1 silent).0
    in absurd (search (rules, read))

pub loop-at-preserved : goal.loop-at-preserved
loop-at-preserved c =
    (ReadsOn_further _ _ _ c.loop-at.invariant.0 (ReadsOn_line c.in-Some.line.now _ _ c.in_ok-command.command c.read_line.result (search rules) (search rules) c.read_line.ensures.says), λ silent. (others_silent c.in-Some.line.now _ _ (search rules) (c.loop-at.invariant.1 silent).0, search rules))

use Rattle.std.proofs.Common.{rules, ◌∙◌}
use Rattle.session.proofs.Reading.{ReadsOn_further, end_silent}
use Rattle.session.proofs.run.Job.run.Goals as goal

pub loop-open-preserved-in_ok-open-in-Some : goal.loop-open-preserved-in_ok-open-in-Some
loop-open-preserved-in_ok-open-in-Some c =
    (ReadsOn_further _ _ _ c.loop-open.invariant.0 c.in_ok-open-in-Some.ensures.reads, λ silent. let none = (c.loop-open.invariant.1 silent).2 in absurd (search (rules, none)))

pub loop-open-preserved : goal.loop-open-preserved
loop-open-preserved c =
    (ReadsOn_further _ _ _ c.loop-open.invariant.0 c.in_ok-open-in-None.ensures.reads, λ silent. let now = c.loop-open.invariant.1 silent in let passed = c.run_stretch.ensures.silent now.0 in (end_silent _ passed.1.ended, passed.1.unwritten ∙ now.1, search (rules, passed.0)))

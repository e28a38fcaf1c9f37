use Rattle.std.proofs.Common.{take, drop, sym, ap, ◌∙◌}
use lib.Seq.{take-length, drop-length}
use Rattle.command.specs.Cutting.{ends}
use Rattle.command.proofs.Cuts.{are_ends, long, up_to_none, up_to_found}
use Rattle.command.proofs.words.split_word.Goals as goal

pub returns-in-Some-find : goal.returns-in-Some-find
returns-in-Some-find c =
    let s = c.args.text.now in
    let l = long s c.requires c.in_default.ensures.cases in
    let h = c.in-Some-find.ensures.cases in
    let found = h.1 ends are_ends in
    let at = up_to_found s c.in-Some-find.at h.0 found.0 found.1 h.3.0 in
    let is = sym (l ∙ at) in
    record {
      word = c.split_at.ensures.front ∙ ap (λ n. take n s) is;
      rest = c.split_at.ensures.back ∙ ap (λ n. drop n s) is;
    }

pub returns-in-None : goal.returns-in-None
returns-in-None c =
    let s = c.args.text.now in
    let l = long s c.requires c.in_default.ensures.cases in
    let all = up_to_none s (c.in-None.ensures.cases ends are_ends) in
    let is = sym (l ∙ all) in
    record {
      word = sym (take-length s) ∙ ap (λ n. take n s) is;
      rest = sym (drop-length s) ∙ ap (λ n. drop n s) is;
    }

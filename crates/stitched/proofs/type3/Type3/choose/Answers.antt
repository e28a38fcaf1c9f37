use Rattle.std.proofs.Common.{ℕ, get_or, ap, ◌∙◌, arith}
use lib.Ieee.{nan}
use Rattle.numeric.specs.Lists.{pairs_of}
use Rattle.numeric.specs.Whole.{cut_unsigned}
use Rattle.stitched.specs.Stitched.{pick, part_input}
use Rattle.stitched.proofs.Choosing.{pick_within}
use Rattle.stitched.proofs.Single.{only_stretch}
use Rattle.stitched.proofs.type3.Type3.choose.Goals as goal

pub encoded-requires : goal.encoded-requires
encoded-requires c = omega (arith, c.find_interval-stretch.ensures.place, pick_within c.args.self.now.bounds.now c.clamp_first-x.result)

pub returns : goal.returns
returns c =
    let t = c.args.self.now in
    let bounds = t.bounds.now in
    let domain = c.pair_or_nan-domain.ensures.pair in
    let x = c.clamp_first-x.ensures in
    let i = c.find_interval-stretch.ensures.place ∙ ap (pick bounds) x in
    let part = c.part.ensures ∙ ap (λ (n : ℕ). cut_unsigned 32 (get_or t.parts.now n nan)) i in
    let input = c.encoded.ensures ∙ (λ j. part_input (domain j) bounds (pairs_of t.encode.now) (x j) (i j)) in
    let single = rw domain at c.pair_or_nan-domain.ensures.single in
    record {
      chosen = λ j. record { stretch = i j; part = part j; input = input j };
      only = only_stretch (pairs_of t.domain.now) bounds c.args.inputs.now c.clamp_first-x.result c.find_interval-stretch.result single.0 single.1 x c.find_interval-stretch.ensures.only;
    }

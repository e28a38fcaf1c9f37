use Rattle.std.proofs.Common.{◌≡◌, true, length, sym, ap, ◌∙◌, rules, arith}
use Rattle.std.proofs.lemmas.List.{take_all}
use Rattle.std.proofs.lemmas.Bool.{and_from}
use Rattle.numeric.specs.Lists.{pairs_of}
use Rattle.sampled.specs.Grid.{sizes_of}
use Rattle.sampled.specs.Sampled.{shape_fits, sizes_in, sizes_fit}
use Rattle.sampled.proofs.Fitting.{cut_whole}
use Rattle.sampled.proofs.type0.Type0.grid.Goals as goal

pub new-requires-clause-domain : goal.new-requires-clause-domain
new-requires-clause-domain c = let cut = cut_whole c.args.self.now c.args.inputs c.cut_sizes-sizes.result.items (search rules) c.cut_sizes-sizes.ensures in cut.2 ∙ sym cut.1

pub new-requires-clause-encode : goal.new-requires-clause-encode
new-requires-clause-encode c = let cut = cut_whole c.args.self.now c.args.inputs c.cut_sizes-sizes.result.items (search rules) c.cut_sizes-sizes.ensures in cut.3 ∙ sym cut.1

pub returns-then-sizes_fit-clause-own : goal.returns-then-sizes_fit-clause-own
returns-then-sizes_fit-clause-own c =
    let t = c.args.self.now in
    let cut = cut_whole c.args.self.now c.args.inputs c.cut_sizes-sizes.result.items (search rules) c.cut_sizes-sizes.ensures in
    let whole : c.cut_sizes-sizes.result.items ≡ sizes_in t.sizes.now = cut.0 in
    let shape : shape_fits (pairs_of t.domain.now) (sizes_in t.sizes.now) (pairs_of t.encode.now) (pairs_of t.decode.now) c.args.inputs ≡ true = search rules in
    let fit : sizes_fit (sizes_in t.sizes.now) (length (pairs_of t.decode.now)) ≡ true = search rules in (
      and_from _ _ shape fit,
      take_all c.args.inputs (sizes_of c.new.result.dimensions.items) (omega (arith, ap length c.new.ensures.sizes, cut.1)) ∙ c.new.ensures.sizes ∙ whole,
    )

pub returns-then-sizes_fit-clause-parts : goal.returns-then-sizes_fit-clause-parts
returns-then-sizes_fit-clause-parts c =
    let cut = cut_whole c.args.self.now c.args.inputs c.cut_sizes-sizes.result.items (search rules) c.cut_sizes-sizes.ensures in
    let whole : c.cut_sizes-sizes.result.items ≡ sizes_in c.args.self.now.sizes.now = cut.0 in
    search rules

pub returns-else-sizes_fit-clause-own : goal.returns-else-sizes_fit-clause-own
returns-else-sizes_fit-clause-own c =
    let cut = cut_whole c.args.self.now c.args.inputs c.cut_sizes-sizes.result.items (search rules) c.cut_sizes-sizes.ensures in
    let whole : c.cut_sizes-sizes.result.items ≡ sizes_in c.args.self.now.sizes.now = cut.0 in
    search rules

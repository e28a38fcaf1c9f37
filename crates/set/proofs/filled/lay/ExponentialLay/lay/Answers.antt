use Rattle.std.proofs.Common.{[], ◌∷◌, ◌++◌, ◌∙◌, arith}
use Rattle.std.proofs.lemmas.Grind.{common_steps}
use Rattle.function.specs.Exponential.{c0_of, c1_of}
use Rattle.numeric.specs.Lists.{flat}
use Rattle.set.proofs.Filling.{appended-appended, numbers_of_numbers, numbers_of_pairs}
use Rattle.set.proofs.filled.lay.ExponentialLay.lay.Goals as goal

pub append-own-requires : goal.append-own-requires
append-own-requires c =
    let g = c.args.self.now in
    grind (arith, common_steps, numbers_of_numbers (c0_of g), numbers_of_pairs g.domain.now, numbers_of_pairs g.range.now)

pub append-c1-requires : goal.append-c1-requires
append-c1-requires c =
    let g = c.args.self.now in
    grind (arith, common_steps, numbers_of_numbers (c0_of g), numbers_of_numbers (c1_of g), numbers_of_pairs g.domain.now, numbers_of_pairs g.range.now)

pub append-n-requires : goal.append-n-requires
append-n-requires c =
    let g = c.args.self.now in
    grind (arith, common_steps, numbers_of_numbers (c0_of g), numbers_of_numbers (c1_of g), numbers_of_pairs g.domain.now, numbers_of_pairs g.range.now)

pub returns-clause-record : goal.returns-clause-record
returns-clause-record c =
    let g = c.args.self.now in
    grind (arith, common_steps, numbers_of_numbers (c0_of g), numbers_of_numbers (c1_of g), numbers_of_pairs g.domain.now, numbers_of_pairs g.range.now)

pub returns-clause-numbers : goal.returns-clause-numbers
returns-clause-numbers c =
    let g = c.args.self.now in
    let ds = numbers_of_pairs g.domain.now in
    let rs = numbers_of_pairs g.range.now in
    let r = flat g.range.now in
    let c0 = c0_of g in
    let c1 = c1_of g in
    let n = g.n ∷ [] in
    rw (c.append-n.ensures.items, c.append-c1.ensures.items, c.append-own.ensures.items, c.append-range.ensures.items, c.append-domain.ensures.items, c.c0_numbers.ensures, c.c1_numbers.ensures, ds, rs, numbers_of_numbers c0, numbers_of_numbers c1)
    (appended-appended _ c1 n ∙ appended-appended _ c0 (c1 ++ n) ∙ appended-appended _ r (c0 ++ (c1 ++ n)) ∙ appended-appended _ _ (r ++ (c0 ++ (c1 ++ n))))

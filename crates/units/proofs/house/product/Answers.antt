use Rattle.std.proofs.Common.{◌≡◌, ℕ, length, refl, ap, ◌∙◌, add-one, rules, arith}
use Rattle.std.proofs.iter.Yields.{nat_range_steps}
use Rattle.std.proofs.lemmas.Fn.{fold_over}
use Rattle.std.proofs.lemmas.Iterator.{YieldsList-from_range}
use Rattle.std.proofs.lemmas.List.{length_push}
use Rattle.std.proofs.lemmas.List.FromFn.{length-range_with_len}
use Rattle.std.specs.List.{range_with_len}
use Rattle.units.specs.House as spec
use Rattle.units.proofs.house.product.Goals as goal

pub returns : goal.returns
returns c =
    let n = c.args.n in
    let multiplied : c.fold.result ≡ spec.product c.args.base (length (range_with_len 0 n)) =
    fold_over nat_range_steps (λ x. x) _ (λ ys p. p ≡ spec.product c.args.base (length ys)) _ (λ ys a x b f' j k. let more = length_push ys x in let one = add-one (length ys) in search rules) _ (range_with_len 0 n) _ _
    (YieldsList-from_range {s = record { start = 0; end = n }} 0 n n refl (omega arith)).runs refl c.fold.ensures.ran in
    multiplied ∙ ap (λ (k : ℕ). spec.product c.args.base k) (length-range_with_len 0 n)

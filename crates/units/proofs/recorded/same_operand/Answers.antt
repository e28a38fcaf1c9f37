use Rattle.std.proofs.Common.{◌≡◌, eqb, sym, ◌∙◌, rules}
use Rattle.units.specs.Recorded.{same_operand}
use Rattle.units.proofs.Answering.{same_value, value_same}
use Rattle.units.proofs.recorded.same_operand.Goals as goal

pub returns : goal.returns
returns c =
    let test : eqb c.f32_to_bits_with_nan.result c.f32_to_bits_with_nan-2.result ≡ same_operand c.args.x c.args.y = search rules in
    record {
      test = test;
      same = (λ e. same_value _ _ c.well_formed.0.1 c.well_formed.1.0.1 (sym test ∙ e), λ e. test ∙ value_same _ _ e);
    }

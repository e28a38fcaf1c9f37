-- Recorded answers: a loop over the records, and operands that are the same. Assumes nothing.
use Rattle.std.proofs.Common.{◌≡◌, Bool, true, false, cond, T, List, [], ◌∷◌, Some, refl, sym, ap, ◌∙◌, subst, eq-eqb, eqb-true}
use lib.Ieee.{Float, nan, fits, binary32, of_bits, to_bits}
use lib.Ieee.Bits.{of_bits-to_bits}
use Rattle.std.specs.List.{find}
use Rattle.std.specs.Option.{option_map_or}
use Rattle.units.specs.Recorded.{same_operand, fitting, recorded}
use Rattle.units.specs.declared.question.Question.{Question}
use Rattle.units.specs.declared.recorded.Answered.{Answered}

-- the first record that fits, if there is one
pub recorded_found : (question : Question) (x y : Float) (items : List Answered)
    → option_map_or (λ item. item.answer) (find (fitting question x y) items) nan ≡ recorded items question x y
recorded_found question x y [] = refl
recorded_found question x y (item ∷ items) = go (recorded_found question x y items) (fitting question x y item)
  where
    go : option_map_or (λ other. other.answer) (find (fitting question x y) items) nan ≡ recorded items question x y
        → (b : Bool) → option_map_or (λ other. other.answer) (cond b (Some item) (find (fitting question x y) items)) nan ≡ cond b item.answer (recorded items question x y)
    go rest true = refl
    go rest false = rest

-- two f32 pass for the same operand exactly where they are the same value
pub same_value : (x y : Float) → fits binary32 x ≡ true → fits binary32 y ≡ true → same_operand x y ≡ true → x ≡ y
same_value x y p q e =
    sym (of_bits-to_bits binary32 x (subst T (sym p) tt)) ∙ ap (of_bits binary32) (eqb-true (to_bits binary32 x) (to_bits binary32 y) e) ∙ of_bits-to_bits binary32 y (subst T (sym q) tt)

pub value_same : (x y : Float) → x ≡ y → same_operand x y ≡ true
value_same x y e = eq-eqb (to_bits binary32 x) (to_bits binary32 y) (ap (to_bits binary32) e)

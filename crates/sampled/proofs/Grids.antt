-- The Encode pairs that Sizes give. Assumes nothing.
use Rattle.std.proofs.Common.{◌≡◌, ℕ, ◌-◌, Bool, true, ◌&&◌, List, pos, sym, refl, ap, ◌∙◌}
use lib.Ieee.{of_bits}
use Rattle.std.specs.Float.{float_is_finite}
use Rattle.std.specs.List.{list_all}
use Rattle.std.proofs.lemmas.List.Folds.{list_all-map}
use Rattle.numeric.specs.Interval.{both_finite}
use Rattle.numeric.specs.Lists.{every}
use Rattle.numeric.specs.Whole.{nearest_to}
use Rattle.sampled.specs.Sampled.{zero, whole_grid}

zero_finite : float_is_finite zero ≡ true
unfolding of_bits float_is_finite
zero_finite = refl

-- they are finite where their second numbers are
pub points_finite : (sizes : List ℕ) → every (λ s. float_is_finite (nearest_to (pos (s - 1)))) sizes ≡ every both_finite (whole_grid sizes)
points_finite sizes = sym (list_all-map both_finite (λ (s : ℕ). (zero, nearest_to (pos (s - 1)))) sizes ∙ ap (λ (b : Bool). list_all (λ s. b && float_is_finite (nearest_to (pos (s - 1)))) sizes) zero_finite)

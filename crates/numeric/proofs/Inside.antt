-- That a clamped value lies in its pair. Assumes nothing.
use Rattle.std.proofs.Common.{◌≡◌, true, false, ◌&&◌, ◌||◌, sym, refl, subst}
use lib.Ieee.{Float, nan, inf, fin, lt, le, is_nan}
use lib.Ieee.Bits.{is_true}
use Rattle.std.specs.Float.{float_is_finite}
use Rattle.std.proofs.lemmas.Float.{T_from_false}
use Rattle.std.proofs.lemmas.Float as order
use Rattle.std.proofs.lemmas.Bool.{and_from, and_parts, or_parts, cond-true, cond_both}
use Rattle.numeric.specs.Interval.{ordered, at_most, at_least, clamp, within}

-- two numbers are ordered one way or the other
pub le_of_not_lt : (x y : Float) → is_nan x ≡ false → is_nan y ≡ false → lt x y ≡ false → le y x ≡ true
le_of_not_lt x y p q h = is_true (le y x) (order.le_of_not-lt x y (T_from_false (is_nan x) p) (T_from_false (is_nan y) q) (T_from_false (lt x y) h))

pub le_refl : (x : Float) → is_nan x ≡ false → le x x ≡ true
le_refl x p = is_true (le x x) (order.le_refl x (T_from_false (is_nan x) p))

pub finite_number : (x : Float) → float_is_finite x ≡ true → is_nan x ≡ false
unfolding float_is_finite is_nan
finite_number nan h = sym h
finite_number (inf s) h = refl
finite_number (fin s m e) h = refl

at_most_stays : (b v : Float) → is_nan b ≡ false → (is_nan (at_most b v) ≡ false) × (le (at_most b v) b ≡ true)
at_most_stays b v n =
    cond_both (is_nan v || lt b v) b v (λ x. (is_nan x ≡ false) × (le x b ≡ true)) (λ _. (n, le_refl b n))
    (λ e. let k = or_parts (is_nan v) (lt b v) e in (k.0, le_of_not_lt b v n k.0 k.1))

at_least_within : (a b u : Float) → is_nan a ≡ false → le a b ≡ true → is_nan u ≡ false → le u b ≡ true → within (a, b) (at_least a u) ≡ true
at_least_within a b u n l p q =
    cond_both (lt u a) a u (λ x. within (a, b) x ≡ true) (λ _. and_from (le a a) (le a b) (le_refl a n) l)
    (λ e. and_from (le a u) (le u b) (le_of_not_lt u a p n e) q)

-- what clamping to an ordered pair comes to
pub clamp_ordered : (a b v : Float) → ordered (a, b) ≡ true → clamp (a, b) v ≡ at_least a (at_most b v)
clamp_ordered a b v o = cond-true (ordered (a, b)) (at_least a (at_most b v)) v o

-- whatever the value is, a NaN and the infinities too
pub clamp_within : (a b v : Float) → ordered (a, b) ≡ true → within (a, b) (clamp (a, b) v) ≡ true
clamp_within a b v o =
    let k = and_parts (float_is_finite a && float_is_finite b) (le a b) o in
    let f = and_parts (float_is_finite a) (float_is_finite b) k.0 in
    let u = at_most_stays b v (finite_number b f.1) in
    subst (λ (x : Float). within (a, b) x ≡ true) (sym (clamp_ordered a b v o))
    (at_least_within a b (at_most b v) (finite_number a f.0) k.1 u.0 u.1)

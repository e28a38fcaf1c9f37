use Rattle.std.proofs.Common.{◌≡◌, true, false, T, sym, ap, ◌∙◌, subst, rules}
use lib.Ieee.{Float, inf, fits, binary32, eq, le}
use Rattle.std.specs.Float.{float_is_finite}
use Rattle.units.specs.House.{none, root, IsRoot}
use Rattle.units.proofs.Nans.{nan_is}
use Rattle.units.proofs.RootNearest.{root_is, root_zero, root_infinity}
use Rattle.units.proofs.house.root.Goals as goal

-- on each way all follows from the value
by_value : (x r : Float) → fits binary32 x ≡ true → r ≡ root x
    → record { value : r ≡ root x; nearest : T (float_is_finite x) → T (le none x) → IsRoot x r; zero : T (eq x none) → r ≡ none; infinity : x ≡ inf false → r ≡ inf false }
by_value x r t v =
    record {
      value = v;
      nearest = λ f l. subst (IsRoot x) (sym v) (root_is x (subst T (sym t) tt) f l);
      zero = λ z. v ∙ root_zero x z;
      infinity = λ i. v ∙ ap root i ∙ root_infinity;
    }

pub returns-then-x-2 : goal.returns-then-x-2
returns-then-x-2 c = by_value c.args.x _ c.well_formed.0.1 (search rules)

pub returns-else-x-2 : goal.returns-else-x-2
returns-else-x-2 c = by_value c.args.x _ c.well_formed.0.1 (search rules)

pub returns-else-x : goal.returns-else-x
returns-else-x c = by_value c.args.x _ c.well_formed.0.1 (search (rules, nan_is))

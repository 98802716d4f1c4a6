-- The goal's enclosure, and a lower bound.
use Rattle.std.proofs.Common.{◌≡◌, Bool, true, false, ◌&&◌, Option, refl, ap, sym, ◌∙◌}
use Rattle.dyadic.specs.Rounding.{Dyadic, Ext, finite, below_all, above_all, ext_at_most}
use Rattle.interval_model.specs.Interval.{between, within}
use Rattle.cert_model.specs.Least.{lower_end, not_below}

below-infinity : (h : Ext) → ext_at_most h above_all ≡ true
below-infinity below_all = refl
below-infinity (finite d) = refl
below-infinity above_all = refl

and-true : (a : Bool) → (a && true) ≡ a
and-true true = refl
and-true false = refl

-- some values are not below the bound where their lower end is not
pub not_below_low : (lower : Option Dyadic) (l h : Ext) → ext_at_most (lower_end lower) l ≡ within (between l h) (not_below lower)
not_below_low lower l h =
    sym (and-true (ext_at_most (lower_end lower) l)) ∙ ap (λ (t : Bool). ext_at_most (lower_end lower) l && t) (sym (below-infinity h))

-- On which side of 0 what lies between two ends lies.
use Rattle.std.specs.Prelude.{IsTrue}
use Rattle.ival.specs.declared.side.Side.{Side}
use Rattle.ival.specs.declared.side.Side.TheVariants.{Above, Below, Across}
use Rattle.dyadic.specs.Fraction.{zero_fraction}
use Rattle.dyadic.specs.Rounding.{End, at, end_at_most, Ext, finite, end_of}
use Rattle.dyadic.specs.End.{end_sign}
use Rattle.interval_model.specs.Interval.{is_above, is_below}

abbrev pub LiesOn : Side → End → End → Type 0
LiesOn Above l h = IsTrue (end_at_most (at zero_fraction) l)
LiesOn Below l h = IsTrue (end_at_most h (at zero_fraction))
LiesOn Across l h = IsTrue (end_at_most l (at zero_fraction)) × IsTrue (end_at_most (at zero_fraction) h)

-- ---- which ends give the least product and the greatest, for factors that are not both across 0

abbrev pub first_of_least : {X : Type 0} → Side → Side → X → X → X
first_of_least Above Above l h = l
first_of_least Above t l h = h
first_of_least Below Below l h = h
first_of_least Below t l h = l
first_of_least Across Below l h = h
first_of_least Across t l h = l

abbrev pub second_of_least : {X : Type 0} → Side → Side → X → X → X
second_of_least Above t l h = l
second_of_least Below t l h = h
second_of_least Across Below l h = l
second_of_least Across t l h = h

abbrev pub first_of_greatest : {X : Type 0} → Side → Side → X → X → X
first_of_greatest Above Below l h = l
first_of_greatest Above t l h = h
first_of_greatest Below Above l h = h
first_of_greatest Below t l h = l
first_of_greatest Across Above l h = h
first_of_greatest Across t l h = l

abbrev pub second_of_greatest : {X : Type 0} → Side → Side → X → X → X
second_of_greatest Above t l h = h
second_of_greatest Below t l h = l
second_of_greatest Across Above l h = h
second_of_greatest Across t l h = l

-- 0 lies outside of l to h, on the other side
abbrev pub MissesOn : Side → Ext → Ext → Type 0
MissesOn Above l h = IsTrue (is_above (end_sign (end_of l)))
MissesOn Below l h = IsTrue (is_below (end_sign (end_of h)))
MissesOn Across l h = ⊥

abbrev pub IsFinite : Ext → Type 0
IsFinite (finite d) = Unit {0}
IsFinite e = ⊥

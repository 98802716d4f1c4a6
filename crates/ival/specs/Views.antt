-- What the types of the code stand for.
use Rattle.std.specs.Prelude.{◌≢◌, cond}
use Rattle.ival.specs.declared.domain.Range.{Range}
use Rattle.ival.specs.declared.ends.Ends.{Ends}
use Rattle.ival.specs.declared.ends.Ival.{Ival}
use Rattle.ival.specs.declared.ends.Ival.TheVariants.{Empty, Between}
use Rattle.interval_model.specs.Interval.{Interval, nothing, between}
use Rattle.dyadic.specs.Fraction.{Fraction}
use Rattle.dyadic.specs.Rounding.{Dyadic, Ext, finite, ext_at_most, down, up}
use Rattle.dyadic.specs.Views.{dyadic_of, ext_of}

abbrev pub ends_of : Ends → Interval
ends_of e = between (ext_of e.low) (ext_of e.high)

abbrev pub interval_of : Ival → Interval
interval_of Empty = nothing
interval_of (Between e) = ends_of e

abbrev pub range_of : Range → Interval
range_of r = between (finite (dyadic_of r.low)) (finite (dyadic_of r.high))

-- empty, or without a lower or an upper number
abbrev pub HasNoRange : Interval → Type 0
HasNoRange i = (l h : Dyadic) → i ≢ between (finite l) (finite h)

-- what lies between two ends: nothing where they cross
abbrev pub span : Ext → Ext → Interval
span l h = cond (ext_at_most l h) (between l h) nothing

-- the least interval around a fraction
abbrev pub around : Fraction → Interval
around q = between (down q) (up q)

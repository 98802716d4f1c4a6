-- The tightest ends of constants, and their ranges.
use Rattle.std.specs.Prelude.{◌≡◌, ℕ, List, [], ◌∷◌, length, Option, Some, None, slice_get}
use Rattle.dyadic.specs.End.{greater_ext, lesser_ext}
use Rattle.dyadic.specs.Point.{Sort, bool_sort, real_sort}
use Rattle.dyadic.specs.Rounding.{Ext as KeptEnd}
use Rattle.dyadic.specs.Views.{ext_of}
use Rattle.dyadic.specs.declared.dy.Ext.{Ext}
use Rattle.interval_model.specs.Interval.{Interval, everything}
use Rattle.script_model.specs.Declared.{Side, default_high, default_low, lower, upper}
use Rattle.script_model.specs.Meaning.{from_left}
use Rattle.script_roots.specs.TreeBounds.{EndBound, between_or_nothing, ends_on, high_end, low_end}
use Rattle.root_rewriting.specs.declared.range.bounds.Bounds.{Bounds}

abbrev pub end_of : Option Ext → Option KeptEnd
end_of None = None
end_of (Some e) = Some (ext_of e)

-- ---- ends

-- the greatest lower and the least upper end of a constant, where it has them
pub record Tightest : Type 0 where
  pub low : Option KeptEnd
  pub high : Option KeptEnd

abbrev pub bounds_of : Bounds → Tightest
bounds_of b = record { low = end_of b.low; high = end_of b.high }

-- what f makes of these from left to right, where there are some
abbrev pub of_all : (KeptEnd → KeptEnd → KeptEnd) → List KeptEnd → Option KeptEnd
of_all f [] = None
of_all f (e ∷ es) = Some (from_left f e es)

-- of a constant, by these ends
abbrev pub tightest_by : List EndBound → ℕ → Tightest
tightest_by es axis = record { low = of_all greater_ext (ends_on lower axis es); high = of_all lesser_ext (ends_on upper axis es) }

abbrev pub with_end : (KeptEnd → KeptEnd → KeptEnd) → Option KeptEnd → KeptEnd → KeptEnd
with_end f None e = e
with_end f (Some d) e = f d e

abbrev pub tightened_on : Side → KeptEnd → Tightest → Tightest
tightened_on lower e b = record { low = Some (with_end greater_ext b.low e); high = b.high }
tightened_on upper e b = record { low = b.low; high = Some (with_end lesser_ext b.high e) }

-- these are the tightest ends of so many constants
pub record AreTightest (es : List EndBound) (axes : ℕ) (bs : List Bounds) : Type 0 where
  pub count : length bs ≡ axes
  pub are : (axis : ℕ) (b : Bounds) → slice_get bs axis ≡ Some b → bounds_of b ≡ tightest_by es axis

-- ---- ranges

abbrev pub end_or : Option KeptEnd → KeptEnd → KeptEnd
end_or None other = other
end_or (Some e) other = e

-- the range of a constant with these ends
abbrev pub range_with : Option ℕ → Tightest → Sort → Interval
range_with bound b real_sort = between_or_nothing (end_or b.low (low_end (default_low bound))) (end_or b.high (high_end (default_high bound)))
range_with bound b bool_sort = everything

-- The widest axis so far, with its side.
use Rattle.std.specs.Prelude.{ℕ, Option, Some, None}
use Rattle.ival.specs.declared.best.Best.{Best}
use Rattle.dyadic.specs.Fraction.{Fraction}
use Rattle.ival.specs.WideViews.{wide_value, side_of_units}

abbrev pub best_of : Option Best → Option (ℕ × Fraction)
best_of None = None
best_of (Some b) = Some (b.axis, side_of_units (wide_value b.side))

abbrev pub axis_of : Option (ℕ × Fraction) → Option ℕ
axis_of None = None
axis_of (Some (axis, side)) = Some axis

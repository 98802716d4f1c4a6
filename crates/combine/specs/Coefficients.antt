-- The range of a part with these coefficients, and what is left to its variable.
use Rattle.std.specs.Prelude.{◌≡◌, Option, Some}
use Rattle.dyadic.specs.Rounding.{Dyadic}
use Rattle.interval_model.specs.Interval.{Interval, interval_sum, interval_product, interval_square, inverse_product}
use Rattle.cover_model.specs.Combination.{only, interval_difference, root_left, both_range, both_left}
use Rattle.ival.specs.declared.ends.Ival.{Ival}
use Rattle.ival.specs.Views.{interval_of}
use Rattle.ival.specs.Options.{option_of}

-- it is a number alone
abbrev pub IsNumber : Interval → Type 0
IsNumber i = (d : Dyadic) × (i ≡ only d)

-- of a linear and perhaps a quadratic coefficient, where the variable's difference to its centre lies in the third interval
abbrev pub range_by : Ival → Option Ival → Ival → Interval
range_by w q d = both_range (Some (interval_of w)) (option_of q) (interval_of d)

-- the same by the completed square, where this is half the quotient of the coefficients
abbrev pub completed_range : Ival → Ival → Ival → Interval
completed_range q half d =
    interval_product (interval_of q) (interval_difference (interval_square (interval_sum (interval_of d) (interval_of half))) (interval_square (interval_of half)))

-- what is left to that difference, where the part lies in the first interval
abbrev pub left_by : Ival → Ival → Option Ival → Ival → Interval
left_by share w q d = both_left (interval_of share) (Some (interval_of w)) (option_of q) (interval_of d)

abbrev pub left_by_completed : Ival → Ival → Ival → Ival → Interval
left_by_completed share q half d =
    interval_difference (root_left (interval_sum (interval_of d) (interval_of half)) (interval_sum (inverse_product (interval_of share) (interval_of q)) (interval_square (interval_of half)))) (interval_of half)

-- The range of a polynomial over a space.
use Rattle.std.specs.Prelude.{ℕ, [], ◌∷◌, cond, Option, Some, None, nat_eq}
use Rattle.interval_model.specs.Interval.{Interval, interval_negated, interval_sum, interval_product, interval_square}
use Rattle.interval_model.specs.Space.{Space, axis_interval}
use Rattle.square_model.specs.Polynomial.{Monomial, Polynomial, nought_alone, one_alone}

abbrev pub interval_difference : Interval → Interval → Interval
interval_difference i j = interval_sum i (interval_negated j)

-- the difference of an axis to the centre
abbrev pub apart_range : Space → Space → ℕ → Interval
apart_range space centre axis = interval_difference (axis_interval space axis) (axis_interval centre axis)

-- v times the axis that waits, if one does, and these; two that follow each other and are one axis are a square
abbrev pub range_times : (ℕ → Interval) → Interval → Option ℕ → Monomial → Interval
range_times apart v None [] = v
range_times apart v (Some i) [] = interval_product v (apart i)
range_times apart v None (j ∷ m) = range_times apart v (Some j) m
range_times apart v (Some i) (j ∷ m) = range_times apart (interval_product v (cond (nat_eq i j) (interval_square (apart i)) (apart i))) (cond (nat_eq i j) None (Some j)) m

-- where the axes have these ranges
abbrev pub monomial_range : (ℕ → Interval) → Monomial → Interval
monomial_range apart m = range_times apart one_alone None m

abbrev pub range_with : (ℕ → Interval) → Interval → Polynomial → Interval
range_with apart v [] = v
range_with apart v ((m, i) ∷ p) = range_with apart (interval_sum v (interval_product i (monomial_range apart m))) p

abbrev pub polynomial_range : (ℕ → Interval) → Polynomial → Interval
polynomial_range apart p = range_with apart nought_alone p

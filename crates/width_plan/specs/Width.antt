-- Sizes and widths of intervals, rounded up.
use Rattle.std.specs.Prelude.{ℕ, [], ◌∷◌, Bool, true, ◌&&◌, nat_abs, pos}
use Rattle.dyadic.specs.Calls.{power_of_two}
use Rattle.dyadic.specs.Fraction.{at_most, difference_of}
use Rattle.dyadic.specs.Rounding.{Ext, finite, above_all, end_of, exact, two_to_minus, positive}
use Rattle.dyadic.specs.End.{end_sum, end_product, negated_ext, greater_ext, rounded_up}
use Rattle.interval_model.specs.Interval.{Interval, nothing, between}
use Rattle.interval_model.specs.Space.{Domain, real_domain, bool_domain, Space}
use Rattle.poly_graph.specs.Term.{Term, constant, variable, negate, add, multiply, square}
use Rattle.cover_model.specs.Space.{enclosure}

-- an end without its sign
abbrev pub end_size : Ext → Ext
end_size (finite d) = positive (nat_abs d.units)
end_size e = above_all

-- the greater size of an interval's ends
abbrev pub interval_size : Interval → Ext
interval_size nothing = positive 0
interval_size (between l h) = greater_ext (end_size l) (end_size h)

-- the sum and the product of widths, rounded up
abbrev pub width_sum : Ext → Ext → Ext
width_sum v w = rounded_up (end_sum (end_of v) (end_of w))

abbrev pub width_product : Ext → Ext → Ext
width_product v w = rounded_up (end_product (end_of v) (end_of w))

-- the width of an interval
abbrev pub interval_width : Interval → Ext
interval_width nothing = positive 0
interval_width (between l h) = width_sum h (negated_ext l)

abbrev pub two : Ext
two = finite (power_of_two (pos 1))

-- what is added to a width where both ends, of at most this size, are rounded outward: 2^-60 of the size, and 2^-119
abbrev pub rounding_width : Ext → Ext
rounding_width size = width_sum (width_product size (finite (two_to_minus 60))) (finite (two_to_minus 119))

-- The width that bounds the enclosure of a term over each part of the box whose Real axes have sides of at most 2^-bits: the
-- enclosures over the box give the sizes of the factors, and what rounding adds. An infinite size makes it infinite.
abbrev pub width : Space → ℕ → Term → Ext
width box bits (constant q) = interval_width (enclosure box (constant q))
width box bits (variable axis) = finite (two_to_minus bits)
width box bits (negate t) = width box bits t
width box bits (add t u) =
    width_sum (width_sum (width box bits t) (width box bits u))
    (rounding_width (interval_size (enclosure box (add t u))))
width box bits (multiply t u) =
    width_sum
    (width_sum (width_product (interval_size (enclosure box t)) (width box bits u)) (width_product (interval_size (enclosure box u)) (width box bits t)))
    (rounding_width (interval_size (enclosure box (multiply t u))))
width box bits (square t) =
    width_sum (width_product (width_product two (interval_size (enclosure box t))) (width box bits t))
    (rounding_width (interval_size (enclosure box (square t))))

-- each Real axis has a side of at most 2^-bits
abbrev pub is_fine_domain : ℕ → Domain → Bool
is_fine_domain bits (real_domain l h) = at_most (difference_of (exact h) (exact l)) (exact (two_to_minus bits))
is_fine_domain bits (bool_domain f t) = true

abbrev pub is_fine : ℕ → Space → Bool
is_fine bits [] = true
is_fine bits (d ∷ space) = is_fine_domain bits d && is_fine bits space

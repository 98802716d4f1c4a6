-- Polynomials in the differences of axes to a centre, with intervals for coefficients.
use Rattle.std.specs.Prelude.{ℕ, List, [], ◌∷◌, map, length, Bool, true, cond, ◌&&◌, pos, nat_le}
use Rattle.std.specs.Cmp.Lexicographic.{slice_cmp}
use Rattle.std.specs.Ordering.{nat_cmp}
use Rattle.std.specs.declared.cmp.Ordering.{Ordering}
use Rattle.std.specs.declared.cmp.Ordering.TheVariants.{Less, Equal, Greater}
use Rattle.dyadic.specs.Rounding.{Dyadic, finite, down, up, two_to_minus}
use Rattle.dyadic.specs.End.{negated_dyadic}
use Rattle.interval_model.specs.Interval.{Interval, between, interval_negated, interval_sum, interval_product}
use Rattle.interval_model.specs.Space.{Space, axis_interval}
use Rattle.poly_graph.specs.Term.{Term, constant, variable, negate, add, multiply, square}

-- axes in ascending order, one for each factor
abbrev pub Monomial : Type 0
Monomial = List ℕ

-- monomials in ascending order, each with its coefficient
abbrev pub Polynomial : Type 0
Polynomial = List (Monomial × Interval)

abbrev pub only : Dyadic → Interval
only d = between (finite d) (finite d)

abbrev pub nought_alone : Interval
nought_alone = only (record { units = pos 0 })

abbrev pub one_alone : Interval
one_alone = only (two_to_minus 0)

abbrev pub minus_one_alone : Interval
minus_one_alone = only (negated_dyadic (two_to_minus 0))

-- ---- monomials

abbrev pub with_axis : ℕ → Monomial → Monomial
with_axis i [] = i ∷ []
with_axis i (j ∷ m) = cond (nat_le i j) (i ∷ j ∷ m) (j ∷ with_axis i m)

-- the axes of both
abbrev pub together : Monomial → Monomial → Monomial
together [] n = n
together (i ∷ m) n = with_axis i (together m n)

-- ---- polynomials

abbrev pub placed : Ordering → Monomial → Interval → Monomial → Interval → Polynomial → Polynomial → Polynomial
placed Less m i n j rest later = (m, i) ∷ (n, j) ∷ rest
placed Equal m i n j rest later = (n, interval_sum j i) ∷ rest
placed Greater m i n j rest later = (n, j) ∷ later

-- i more for the coefficient of m, in the place of m
abbrev pub given : Monomial → Interval → Polynomial → Polynomial
given m i [] = (m, i) ∷ []
given m i ((n, j) ∷ p) = placed (slice_cmp nat_cmp m n) m i n j p (given m i p)

-- a coefficient alone
abbrev pub constant_polynomial : Interval → Polynomial
constant_polynomial i = ([], i) ∷ []

abbrev pub opposite : Monomial × Interval → Monomial × Interval
opposite (m, i) = (m, interval_negated i)

abbrev pub polynomial_negated : Polynomial → Polynomial
polynomial_negated p = map opposite p

-- the coefficients of the second are given to the first
abbrev pub polynomial_sum : Polynomial → Polynomial → Polynomial
polynomial_sum p [] = p
polynomial_sum p ((m, i) ∷ q) = polynomial_sum (given m i p) q

-- i times m times q is given to r
abbrev pub multiple_given : Monomial → Interval → Polynomial → Polynomial → Polynomial
multiple_given m i [] r = r
multiple_given m i ((n, j) ∷ q) r = multiple_given m i q (given (together m n) (interval_product i j) r)

abbrev pub product_given : Polynomial → Polynomial → Polynomial → Polynomial
product_given [] q r = r
product_given ((m, i) ∷ p) q r = product_given p q (multiple_given m i q r)

abbrev pub polynomial_product : Polynomial → Polynomial → Polynomial
polynomial_product p q = product_given p q []

-- no monomial has more than 32 axes
abbrev pub is_short : Polynomial → Bool
is_short [] = true
is_short ((m, i) ∷ p) = nat_le (length m) 32 && is_short p

-- ---- terms

-- the polynomial of a term about a centre
abbrev pub polynomial_of : Space → Term → Polynomial
polynomial_of centre (constant q) = constant_polynomial (between (down q) (up q))
polynomial_of centre (variable axis) = ([], axis_interval centre axis) ∷ (axis ∷ [], one_alone) ∷ []
polynomial_of centre (negate t) = polynomial_negated (polynomial_of centre t)
polynomial_of centre (add t u) = polynomial_sum (polynomial_of centre t) (polynomial_of centre u)
polynomial_of centre (multiply t u) = polynomial_product (polynomial_of centre t) (polynomial_of centre u)
polynomial_of centre (square t) = polynomial_product (polynomial_of centre t) (polynomial_of centre t)

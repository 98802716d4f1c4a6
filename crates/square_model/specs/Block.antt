-- Blocks of squares: polynomials that are at least 0 over a space.
use Rattle.std.specs.Prelude.{ℕ, List, [], ◌∷◌, Bool, true, false, cond, not, ◌&&◌, ◌||◌, length, nat_eq, nat_lt, nat_le}
use Rattle.std.specs.Cmp.Lexicographic.{slice_cmp}
use Rattle.std.specs.Ordering.{nat_cmp, is_eq}
use Rattle.dyadic.specs.Rounding.{Dyadic, Ext, finite, above_all}
pub use Rattle.cover_line.specs.Line.{Factor, no_factor, bound_of, Block}
use Rattle.interval_model.specs.Interval.{Interval, nothing, between, interval_square, misses_nought}
use Rattle.interval_model.specs.Space.{Domain, real_domain, bool_domain, Space, test_axis}
use Rattle.square_model.specs.Polynomial.{Monomial, Polynomial, only, minus_one_alone, given}
use Rattle.square_model.specs.Range.{apart_range}
use Rattle.square_model.specs.Steps.{Counted, counted, counted_sum, counted_product}

-- ---- its polynomial

-- the numbers are given to q, but no noughts
abbrev pub row_given : List Monomial → List Dyadic → Polynomial → Polynomial
row_given (m ∷ ms) (v ∷ vs) q = row_given ms vs (cond (misses_nought (only v)) (given m (only v) q) q)
row_given _ _ q = q

abbrev pub row_polynomial : List Monomial → List Dyadic → Counted
row_polynomial ms vs = counted (row_given ms vs [])

-- the squares of these are added
abbrev pub squares_with : List Monomial → List (List Dyadic) → Counted → Counted
squares_with (m ∷ ms) (vs ∷ rows) q = let r = row_polynomial (m ∷ ms) vs in squares_with ms rows (counted_sum q (counted_product r r))
squares_with _ _ q = q

abbrev pub upper_end : Interval → Ext
upper_end nothing = above_all
upper_end (between l h) = h

-- h - d^2, where h is finite
abbrev pub bound_polynomial : ℕ → Ext → Polynomial
bound_polynomial axis (finite h) = ([], only h) ∷ (axis ∷ axis ∷ [], minus_one_alone) ∷ []
bound_polynomial axis _ = []

-- the greatest square of the difference of an axis to the centre
abbrev pub greatest_square : Space → Space → ℕ → Ext
greatest_square space centre axis = upper_end (interval_square (apart_range space centre axis))

abbrev pub factored : Space → Space → Factor → Counted → Counted
factored space centre no_factor q = q
factored space centre (bound_of axis) q = counted_product (counted (bound_polynomial axis (greatest_square space centre axis))) q

abbrev pub block_polynomial : Space → Space → Block → Counted
block_polynomial space centre b = factored space centre b.factor (squares_with b.monomials b.rows (counted []))

-- ---- its conditions

abbrev pub is_real : Domain → Bool
is_real (real_domain l h) = true
is_real (bool_domain f t) = false

abbrev pub are_real_axes : Space → Monomial → Bool
are_real_axes space [] = true
are_real_axes space (i ∷ m) = test_axis is_real i space && are_real_axes space m

abbrev pub is_ascending : Monomial → Bool
is_ascending [] = true
is_ascending (i ∷ []) = true
is_ascending (i ∷ j ∷ m) = nat_le i j && is_ascending (j ∷ m)

-- at most 32 Real axes in ascending order
abbrev pub is_monomial : Space → Monomial → Bool
is_monomial space m = nat_le (length m) 32 && is_ascending m && are_real_axes space m

abbrev pub is_among : Monomial → List Monomial → Bool
is_among m [] = false
is_among m (n ∷ ns) = is_eq (slice_cmp nat_cmp m n) || is_among m ns

-- each is a monomial, and none stands twice
abbrev pub are_monomials : Space → List Monomial → Bool
are_monomials space [] = true
are_monomials space (m ∷ ms) = is_monomial space m && not (is_among m ms) && are_monomials space ms

abbrev pub is_finite : Ext → Bool
is_finite (finite h) = true
is_finite _ = false

-- the factor is a polynomial with numbers for coefficients
abbrev pub is_factor : Space → Space → Factor → Bool
is_factor space centre no_factor = true
is_factor space centre (bound_of axis) = test_axis is_real axis space && is_finite (greatest_square space centre axis)

-- a row for each monomial, with a number for it and for each after it
abbrev pub are_rows : List Monomial → List (List Dyadic) → Bool
are_rows [] [] = true
are_rows (m ∷ ms) (vs ∷ rows) = nat_eq (length vs) (length (m ∷ ms)) && are_rows ms rows
are_rows _ _ = false

abbrev pub is_block : Space → Space → Block → Bool
is_block space centre b = nat_lt 0 (length b.monomials) && are_monomials space b.monomials && are_rows b.monomials b.rows && is_factor space centre b.factor

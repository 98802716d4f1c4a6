-- A block's polynomial encloses a number that is not negative.
use Rattle.std.proofs.Common.{ℕ, List, [], ◌∷◌, Bool, true, false, cond, not, ◌&&◌, IsTrue, refl, sym, length, nat_lt, nat_le, true≢false}
use Rattle.dyadic.specs.Fraction.{at_most}
use Rattle.dyadic.specs.Point.{Sort, real_sort}
use Rattle.dyadic.specs.Rounding.{Dyadic, exact, at, Ext, below_all, finite, above_all, end_of, end_at_most}
use Rattle.dyadic.proofs.Equal.{both_true, both_pass}
use Rattle.poly_graph.specs.Problem.{HasSort}
use Rattle.interval_model.specs.Interval.{Interval, nothing, between, interval_square, misses_nought}
use Rattle.interval_model.specs.Space.{Space, test_axis}
use Rattle.interval_model.proofs.Ends.{◌⊑◌}
use Rattle.interval_model.proofs.EndsProducts.{at_most_refl}
use Rattle.interval_model.proofs.Holds.{Holds, square_holds}
use Rattle.square_model.specs.Polynomial.{Monomial, Polynomial, only, minus_one_alone, given, polynomial_product}
use Rattle.square_model.specs.Range.{apart_range}
use Rattle.square_model.specs.Steps.{Counted, counted, counted_sum, counted_product}
use Rattle.square_model.specs.Block.{Block, Factor, no_factor, bound_of, row_given, row_polynomial, squares_with, upper_end, bound_polynomial, greatest_square, factored, block_polynomial, is_real, are_real_axes, is_ascending, is_monomial, is_among, are_monomials, are_rows, is_factor, is_finite, is_block}
use Rattle.square_model.specs.Encloses.{AreReal}
use Rattle.square_model.proofs.Numbers.{Number, nought, one, number, plus_of, times_of, opposite_of, less, same_number, bound_taken}
use Rattle.square_model.proofs.Signs.{NotNegative, nought_not_negative, plus_not_negative, times_not_negative, square_not_negative, less_not_negative}
use Rattle.square_model.proofs.Enclosing.{monomial_number, Enc, given_encloses, sum_encloses, product_encloses}

pub only_holds : (l : Dyadic) → Holds (only l) (exact l)
only_holds l = both_pass (at_most (exact l) (exact l)) (at_most (exact l) (exact l)) (at_most_refl (exact l)) (at_most_refl (exact l))

minus-one-holds : Holds minus_one_alone (opposite_of one).value
unfolding at_most Rattle.dyadic.specs.Fraction.negated
minus-one-holds = refl

abbrev pub AllReal : List Sort → List Monomial → Type 0
AllReal sorts [] = Unit {0}
AllReal sorts (m ∷ ms) = AreReal sorts m × AllReal sorts ms

module _ (sorts : List Sort) (d : ℕ → Number) where
  abbrev Some-number : Polynomial → Type 0
  Some-number p = (v : Number) × Enc sorts d p v

  pub row_encloses : (ms : List Monomial) (vs : List Dyadic) (q : Polynomial) → AllReal sorts ms → Some-number q → Some-number (row_given ms vs q)
  row_encloses [] vs q r e = e
  row_encloses (m ∷ ms) [] q r e = e
  row_encloses (m ∷ ms) (v ∷ vs) q r e = row_encloses ms vs (cond (misses_nought (only v)) (given m (only v) q) q) r.1 (by (misses_nought (only v)))
    where
      by : (t : Bool) → Some-number (cond t (given m (only v) q) q)
      by true = (plus_of e.0 (times_of (number v) (monomial_number sorts d m)), given_encloses sorts d m (only v) (number v) r.0 (only_holds v) q e.0 e.1)
      by false = e

  abbrev pub NotNegativeIn : Polynomial → Type 0
  NotNegativeIn p = (v : Number) × NotNegative v × Enc sorts d p v

  pub squares_enclose : (ms : List Monomial) (rows : List (List Dyadic)) (q : Counted) → AllReal sorts ms → NotNegativeIn q.polynomial → NotNegativeIn (squares_with ms rows q).polynomial
  squares_enclose [] rows q r e = e
  squares_enclose (m ∷ ms) [] q r e = e
  squares_enclose (m ∷ ms) (vs ∷ rows) q r e =
      let row : Polynomial = (row_polynomial (m ∷ ms) vs).polynomial in let w = row_encloses (m ∷ ms) vs [] r (nought, same_number nought) in
      squares_enclose ms rows (counted_sum q (counted_product (row_polynomial (m ∷ ms) vs) (row_polynomial (m ∷ ms) vs))) r.1 (
        plus_of e.0 (times_of w.0 w.0),
        plus_not_negative e.0 (times_of w.0 w.0) e.1 (square_not_negative w.0),
        sum_encloses sorts d q.polynomial (polynomial_product row row) e.0 (times_of w.0 w.0) e.2 (product_encloses sorts d row row w.0 w.0 w.1 w.1),
      )

  module _ (apart : ℕ → Interval) (held : (axis : ℕ) → HasSort real_sort sorts axis → Holds (apart axis) (d axis).value) where
    upper-holds : (i : Interval) (x : Number) → Holds i x.value → ◌⊑◌ (at x.value) (end_of (upper_end i))
    upper-holds nothing x h = absurd (true≢false (sym h))
    upper-holds (between l u) x h = (both_true (end_at_most (end_of l) (at x.value)) (end_at_most (at x.value) (end_of u)) h).1

    bound-encloses : (axis : ℕ) (e : Ext) → HasSort real_sort sorts axis → ◌⊑◌ (at (times_of (d axis) (d axis)).value) (end_of e) → NotNegativeIn (bound_polynomial axis e)
    bound-encloses axis below_all r h = (nought, nought_not_negative, same_number nought)
    bound-encloses axis above_all r h = (nought, nought_not_negative, same_number nought)
    bound-encloses axis (finite u) r h = let x : Number = d axis in
        (less (number u) (times_of x x), less_not_negative (times_of x x) (number u) h, (tt, number u, only_holds u, ((r, (r, tt)), opposite_of one, minus-one-holds, bound_taken x (number u))))

    pub bound_encloses : (axis : ℕ) → HasSort real_sort sorts axis → NotNegativeIn (bound_polynomial axis (upper_end (interval_square (apart axis))))
    bound_encloses axis r = let x : Number = d axis in bound-encloses axis (upper_end (interval_square (apart axis))) r
        (upper-holds (interval_square (apart axis)) (times_of x x) (square_holds (apart axis) x.value x.good (held axis r)))

-- what the tests say
module _ (sorts : List Sort) (space : Space) (reals : (axis : ℕ) → IsTrue (test_axis is_real axis space) → HasSort real_sort sorts axis) where
  real-axes : (m : Monomial) → IsTrue (are_real_axes space m) → AreReal sorts m
  real-axes [] h = tt
  real-axes (i ∷ m) h = let e = both_true (test_axis is_real i space) (are_real_axes space m) h in (reals i e.0, real-axes m e.1)

  pub real_monomials : (ms : List Monomial) → IsTrue (are_monomials space ms) → AllReal sorts ms
  real_monomials [] h = tt
  real_monomials (m ∷ ms) h =
      let e = both_true (is_monomial space m && not (is_among m ms)) (are_monomials space ms) h in
      let f = both_true (is_monomial space m) (not (is_among m ms)) e.0 in
      (real-axes m (both_true (nat_le (length m) 32 && is_ascending m) (are_real_axes space m) f.0).1, real_monomials ms e.1)

  module _ (d : ℕ → Number) (centre : Space) (held : (axis : ℕ) → HasSort real_sort sorts axis → Holds (apart_range space centre axis) (d axis).value) where
    factored-encloses : (f : Factor) (q : Counted) → IsTrue (is_factor space centre f) → NotNegativeIn sorts d q.polynomial → NotNegativeIn sorts d (factored space centre f q).polynomial
    factored-encloses no_factor q h e = e
    factored-encloses (bound_of axis) q h e =
        let b = bound_encloses sorts d (apart_range space centre) held axis (reals axis (both_true (test_axis is_real axis space) (is_finite (greatest_square space centre axis)) h).0) in
        (times_of b.0 e.0, times_not_negative b.0 e.0 b.1 e.1, product_encloses sorts d (bound_polynomial axis (greatest_square space centre axis)) q.polynomial b.0 e.0 b.2 e.2)

    pub block_encloses : (b : Block) → IsTrue (is_block space centre b) → NotNegativeIn sorts d (block_polynomial space centre b).polynomial
    block_encloses b h =
        let e = both_true (nat_lt 0 (length b.monomials) && are_monomials space b.monomials && are_rows b.monomials b.rows) (is_factor space centre b.factor) h in
        let r = both_true (nat_lt 0 (length b.monomials) && are_monomials space b.monomials) (are_rows b.monomials b.rows) e.0 in
        let f = both_true (nat_lt 0 (length b.monomials)) (are_monomials space b.monomials) r.0 in
        factored-encloses b.factor (squares_with b.monomials b.rows (counted [])) e.1
        (squares_enclose sorts d b.monomials b.rows (counted []) (real_monomials b.monomials f.1) (nought, nought_not_negative, same_number nought))

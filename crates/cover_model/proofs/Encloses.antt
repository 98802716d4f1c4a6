-- Enclosures hold the values of their terms.
use Rattle.std.proofs.Common.{ℕ, suc, zero, List, [], ◌∷◌, ◌&&◌, IsTrue, sym, true≢false}
use Rattle.dyadic.specs.Fraction.{IsFraction, at_most}
use Rattle.dyadic.specs.Point.{Sort, real_sort, bool_sort, Coordinate, at_fraction, at_bool, IsPoint}
use Rattle.dyadic.specs.Rounding.{exact}
use Rattle.dyadic.proofs.Equal.{both_true}
use Rattle.interval_model.proofs.Ends.{product_is_good}
use Rattle.interval_model.proofs.EndsSums.{sum_is_good, negated_is_good}
use Rattle.interval_model.proofs.Holds.{Holds, sum_holds, negated_holds, product_holds, square_holds, rounded_fraction_holds}
use Rattle.poly_graph.specs.Term.{Term, constant, variable, negate, add, multiply, square, term_value, coordinate}
use Rattle.interval_model.specs.Space.{real_domain, bool_domain, Space, in_space, in_domain, axis_interval}
use Rattle.cover_model.specs.Space.{enclosure}
use Rattle.poly_graph.specs.Problem.{HasSort, IsTerm}

axis-holds : (sorts : List Sort) (space : Space) (point : List Coordinate) (axis : ℕ) → IsPoint sorts point → IsTrue (in_space space point) → HasSort real_sort sorts axis →
    IsFraction (coordinate point axis) × Holds (axis_interval space axis) (coordinate point axis)
axis-holds (real_sort ∷ sorts) (real_domain l h ∷ space) (at_fraction q ∷ point) zero f i r = (f.0, (both_true (at_most (exact l) q && at_most q (exact h)) (in_space space point) i).0)
axis-holds (real_sort ∷ sorts) (bool_domain t u ∷ space) (at_fraction q ∷ point) zero f i r = absurd (true≢false (sym i))
axis-holds (real_sort ∷ sorts) (d ∷ space) (at_fraction q ∷ point) (suc axis) f i r = axis-holds sorts space point axis f.1 (both_true (in_domain d (at_fraction q)) (in_space space point) i).1 r
axis-holds (bool_sort ∷ sorts) (d ∷ space) (at_bool b ∷ point) zero f i r = elim r [ ]
axis-holds (bool_sort ∷ sorts) (d ∷ space) (at_bool b ∷ point) (suc axis) f i r = axis-holds sorts space point axis f (both_true (in_domain d (at_bool b)) (in_space space point) i).1 r
axis-holds (real_sort ∷ sorts) space (at_bool b ∷ point) axis f i r = elim f [ ]
axis-holds (bool_sort ∷ sorts) space (at_fraction q ∷ point) axis f i r = elim f [ ]
axis-holds (real_sort ∷ sorts) space [] axis f i r = elim f [ ]
axis-holds (bool_sort ∷ sorts) space [] axis f i r = elim f [ ]
axis-holds (s ∷ sorts) [] (c ∷ point) axis f i r = absurd (true≢false (sym i))
axis-holds [] space point axis f i r = elim r [ ]

-- the enclosure of a term over a space holds the term's value, which is a fraction, at each point of the space
pub enclosure_holds : (sorts : List Sort) (space : Space) (point : List Coordinate) → IsPoint sorts point → IsTrue (in_space space point) → (t : Term) → IsTerm sorts t →
    IsFraction (term_value point t) × Holds (enclosure space t) (term_value point t)
enclosure_holds sorts space point f i (constant q) g = (g, rounded_fraction_holds q g)
enclosure_holds sorts space point f i (variable axis) g = axis-holds sorts space point axis f i g
enclosure_holds sorts space point f i (negate t) g = let a = enclosure_holds sorts space point f i t g in (negated_is_good (term_value point t) a.0, negated_holds (enclosure space t) (term_value point t) a.1)
enclosure_holds sorts space point f i (add t u) g = let a = enclosure_holds sorts space point f i t g.0 in let b = enclosure_holds sorts space point f i u g.1 in
    (sum_is_good (term_value point t) (term_value point u) a.0 b.0, sum_holds (enclosure space t) (enclosure space u) (term_value point t) (term_value point u) a.1 b.1)
enclosure_holds sorts space point f i (multiply t u) g = let a = enclosure_holds sorts space point f i t g.0 in let b = enclosure_holds sorts space point f i u g.1 in
    (product_is_good (term_value point t) (term_value point u) a.0 b.0, product_holds (enclosure space t) (enclosure space u) (term_value point t) (term_value point u) a.0 b.0 a.1 b.1)
enclosure_holds sorts space point f i (square t) g = let a = enclosure_holds sorts space point f i t g in
    (product_is_good (term_value point t) (term_value point t) a.0 a.0, square_holds (enclosure space t) (term_value point t) a.0 a.1)

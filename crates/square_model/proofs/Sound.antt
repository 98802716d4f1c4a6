-- A line of squares that is positive has no point.
use Rattle.std.proofs.Common.{ℕ, List, [], ◌∷◌, not, ◌&&◌, IsTrue, refl, ap, sym, ◌∙◌, true≢false}
use Rattle.dyadic.specs.Fraction.{IsFraction, at_most}
use Rattle.dyadic.specs.Point.{Sort, Coordinate, IsPoint}
use Rattle.dyadic.specs.Rounding.{exact, at, end_of, end_at_most, down, up}
use Rattle.dyadic.proofs.Equal.{both_true}
use Rattle.interval_model.specs.Interval.{Interval, nothing, between, interval_product}
use Rattle.interval_model.specs.Space.{Space}
use Rattle.interval_model.proofs.Ends.{end_trans}
use Rattle.interval_model.proofs.Holds.{Holds, sum_holds, product_holds, rounded_fraction_holds}
use Rattle.poly_graph.specs.Term.{Term, constant, variable, negate, add, multiply, square, term_value}
use Rattle.poly_graph.specs.Problem.{Problem, IsTerm, sorts_of_problem, atom_at, term_of}
use Rattle.poly_graph.proofs.Graphs.{terms_are}
use Rattle.square_model.specs.Polynomial.{Polynomial, only, constant_polynomial, polynomial_of, polynomial_negated, polynomial_product, is_short}
use Rattle.square_model.specs.Range.{apart_range, polynomial_range}
use Rattle.square_model.specs.Steps.{Counted, counted_sum, counted_negated}
use Rattle.square_model.specs.Block.{Block, block_polynomial, is_block}
use Rattle.square_model.specs.Positive.{Multipliers, combined_polynomial, less_blocks, rest_polynomial, allowed_range, is_above, are_blocks, is_small}
use Rattle.square_model.specs.Laws.{IsPointIn, AllLie, PolynomialsEnclose, RangesHold, SquaresAreNotNegative, PositiveIsSound}
use Rattle.square_model.proofs.Numbers.{Number, nought, number, plus_of, times_of, opposite_of, less, same_number, turned, less_nought, less_both}
use Rattle.square_model.proofs.Signs.{NotNegative, nought_not_negative, plus_not_negative, less_is_below}
use Rattle.square_model.proofs.Enclosing.{Enc, same_encloses, sum_encloses, product_encloses, negated_encloses, constant_encloses, axis_encloses}
use Rattle.square_model.proofs.Ranging.{nought_holds, range_holds}
use Rattle.square_model.proofs.Squaring.{only_holds, block_encloses}
use Rattle.square_model.proofs.Points.{reals, coordinate_number, coordinate_holds, differences, to_encloses, from_encloses, held_apart}

module _ (sorts : List Sort) (centre : Space) (point at_centre : List Coordinate) (q : IsPoint sorts point) (c : IsPointIn sorts centre at_centre) where
  abbrev d : ℕ → Number
  d = differences sorts point at_centre q c.0

  -- the value of a term is a number, which its polynomial encloses
  term-encloses : (t : Term) → IsTerm sorts t → (g : IsFraction (term_value point t)) × Enc sorts d (polynomial_of centre t) (record { value = term_value point t; good = g })
  term-encloses (constant x) h = (h, constant_encloses sorts d (between (down x) (up x)) (record { value = x; good = h }) (rounded_fraction_holds x h))
  term-encloses (variable axis) h = let x : Number = coordinate_number sorts point q axis in
      (x.good, axis_encloses sorts d axis (coordinate_number sorts at_centre c.0 axis) x _ h (coordinate_holds sorts centre at_centre c axis h) refl)
  term-encloses (negate t) h = let a = term-encloses t h in let x : Number = record { value = term_value point t; good = a.0 } in
      ((opposite_of x).good, negated_encloses sorts d (polynomial_of centre t) x a.1)
  term-encloses (add t u) h = let a = term-encloses t h.0 in let b = term-encloses u h.1 in
      let x : Number = record { value = term_value point t; good = a.0 } in let y : Number = record { value = term_value point u; good = b.0 } in
      ((plus_of x y).good, sum_encloses sorts d (polynomial_of centre t) (polynomial_of centre u) x y a.1 b.1)
  term-encloses (multiply t u) h = let a = term-encloses t h.0 in let b = term-encloses u h.1 in
      let x : Number = record { value = term_value point t; good = a.0 } in let y : Number = record { value = term_value point u; good = b.0 } in
      ((times_of x y).good, product_encloses sorts d (polynomial_of centre t) (polynomial_of centre u) x y a.1 b.1)
  term-encloses (square t) h = let a = term-encloses t h in let x : Number = record { value = term_value point t; good = a.0 } in
      ((times_of x x).good, product_encloses sorts d (polynomial_of centre t) (polynomial_of centre t) x x a.1 a.1)

pub polynomials_enclose : PolynomialsEnclose
polynomials_enclose sorts centre at_centre point c q t h = let e = term-encloses sorts centre point at_centre q c t h in
    to_encloses sorts point at_centre q c.0 (polynomial_of centre t) (record { value = term_value point t; good = e.0 }) e.1

pub ranges_hold : RangesHold
ranges_hold sorts space centre point at_centre h c p v g e = let x : Number = record { value = v; good = g } in
    range_holds sorts (differences sorts point at_centre h.0 c.0) (apart_range space centre) (held_apart sorts space centre point at_centre h c) p x (from_encloses sorts point at_centre h.0 c.0 p x e)

pub squares_are_not_negative : SquaresAreNotNegative
squares_are_not_negative sorts space centre point at_centre h c b t =
    let e = block_encloses sorts space (reals sorts space point h) (differences sorts point at_centre h.0 c.0) centre (held_apart sorts space centre point at_centre h c) b t in
    (e.0.value, e.0.good, e.1, to_encloses sorts point at_centre h.0 c.0 (block_polynomial space centre b).polynomial e.0 e.2)

-- ---- a line

-- no interval is above another that has a number as great as one of its own
not-above : (i j : Interval) (x v : Number) → Holds i x.value → Holds j v.value → IsTrue (at_most x.value v.value) → IsTrue (is_above i j) → ⊥
not-above nothing j x v h k l a = true≢false (sym h)
not-above (between b u) nothing x v h k l a = true≢false (sym k)
not-above (between b u) (between b' u') x v h k l a =
    let p = both_true (end_at_most (end_of b) (at x.value)) (end_at_most (at x.value) (end_of u)) h in
    let r = both_true (end_at_most (end_of b') (at v.value)) (end_at_most (at v.value) (end_of u')) k in
    true≢false (sym (ap not (sym (end_trans (end_of b) (at x.value) (end_of u') x.good p.0 (end_trans (at x.value) (at v.value) (end_of u') v.good l r.1))) ∙ a))

module _ (sorts : List Sort) (space centre : Space) (point at_centre : List Coordinate) (h : IsPointIn sorts space point) (c : IsPointIn sorts centre at_centre) where
  abbrev from-centre : ℕ → Number
  from-centre = differences sorts point at_centre h.0 c.0

  module _ (p : Problem) (terms : (j : ℕ) → IsTerm sorts (term_of p j)) (ranges : ℕ → Interval) where
    combined-encloses : (ms : Multipliers) → AllLie p ranges point ms → (v : Number) × Enc sorts from-centre (combined_polynomial p centre ms).polynomial v × Holds (allowed_range ranges ms) v.value
    combined-encloses [] l = (nought, same_number nought, nought_holds)
    combined-encloses ((j, m) ∷ rest) l =
        let r = combined-encloses rest l.2 in let e = term-encloses sorts centre point at_centre h.0 c (term_of p j) (terms j) in
        let t : Number = record { value = term_value point (term_of p j); good = e.0 } in let x : Number = times_of (number m) t in (
          plus_of r.0 x,
          sum_encloses sorts from-centre (combined_polynomial p centre rest).polynomial (polynomial_product (constant_polynomial (only m)) (polynomial_of centre (term_of p j))) r.0 x r.1
              (product_encloses sorts from-centre (constant_polynomial (only m)) (polynomial_of centre (term_of p j)) (number m) t (constant_encloses sorts from-centre (only m) (number m) (only_holds m)) e.1),
          sum_holds (allowed_range ranges rest) (interval_product (only m) (ranges j)) r.0.value x.value r.2 (product_holds (only m) (ranges j) (exact m) t.value (number m).good t.good (only_holds m) l.1),
        )

  blocks-enclose : (bs : List Block) → IsTrue (are_blocks space centre bs) → (a : Counted) (v : Number) → Enc sorts from-centre a.polynomial v →
      (s : Number) × NotNegative s × Enc sorts from-centre (less_blocks space centre bs a).polynomial (less v s)
  blocks-enclose [] t a v e = (nought, nought_not_negative, same_encloses sorts from-centre a.polynomial v (less v nought) (turned (less v nought) v (less_nought v)) e)
  blocks-enclose (b ∷ bs) t a v e =
      let f = both_true (is_block space centre b && is_short (block_polynomial space centre b).polynomial) (are_blocks space centre bs) t in
      let g = both_true (is_block space centre b) (is_short (block_polynomial space centre b).polynomial) f.0 in
      let s = block_encloses sorts space (reals sorts space point h) from-centre centre (held_apart sorts space centre point at_centre h c) b g.0 in
      let q : Counted = block_polynomial space centre b in let next : Counted = counted_sum a (counted_negated q) in
      let r = blocks-enclose bs f.1 next (less v s.0) (sum_encloses sorts from-centre a.polynomial (polynomial_negated q.polynomial) v (opposite_of s.0) e (negated_encloses sorts from-centre q.polynomial s.0 s.2)) in
      (plus_of s.0 r.0, plus_not_negative s.0 r.0 s.1 r.1, same_encloses sorts from-centre (less_blocks space centre bs next).polynomial (less (less v s.0) r.0) (less v (plus_of s.0 r.0)) (less_both v s.0 r.0) r.2)

pub positive_is_sound : PositiveIsSound
positive_is_sound p ip ranges space centre ms bs t at_centre c point h l =
    let sorts : List Sort = sorts_of_problem p in
    let rest : Polynomial = (rest_polynomial p space centre ms bs).polynomial in
    let a = both_true (are_blocks space centre bs && is_small p space centre ms bs) (is_above (polynomial_range (apart_range space centre) rest) (allowed_range ranges ms)) t in
    let b = both_true (are_blocks space centre bs) (is_small p space centre ms bs) a.0 in
    let v = combined-encloses sorts space centre point at_centre h c p (λ j. terms_are sorts p.nodes ip.nodes (atom_at p j).0) ranges ms l in
    let s = blocks-enclose sorts space centre point at_centre h c bs b.0 (combined_polynomial p centre ms) v.0 v.1 in
    not-above (polynomial_range (apart_range space centre) rest) (allowed_range ranges ms) (less v.0 s.0) v.0
    (range_holds sorts (differences sorts point at_centre h.0 c.0) (apart_range space centre) (held_apart sorts space centre point at_centre h c) rest (less v.0 s.0) s.2)
    v.2 (less_is_below v.0 s.0 s.1) a.1

-- Along points that come together, the values of a term come together, at a rate that is computed from the term.
use Rattle.std.proofs.Common.{◌≡◌, ℕ, zero, suc, ◌+◌, ◌*◌, List, [], ◌∷◌, nat_abs}
use Rattle.dyadic.specs.Fraction.{IsFraction}
use Rattle.dyadic.specs.Point.{Sort, real_sort, bool_sort, Coordinate, at_fraction, at_bool}
use Rattle.script_model.proofs.Bounds.{product_is, sum_is, negated_is}
use Rattle.poly_graph.specs.Term.{Term, constant, variable, negate, add, multiply, square, coordinate, term_value, Atom}
use Rattle.poly_graph.specs.Problem.{HasSort, IsTerm}
use Rattle.real_points.proofs.Sizes.{IsSized, IsClose, sized_constant, sized_negated, sized_sum, sized_product, close_itself, close_negated, close_sum, close_product}

-- ---- bounds and rates

-- a bound of the value's size, where all coordinates have sizes of at most b
abbrev pub bound_of : ℕ → Term → ℕ
bound_of b (constant q) = nat_abs q.num
bound_of b (variable axis) = b
bound_of b (negate t) = bound_of b t
bound_of b (add t u) = bound_of b t + bound_of b u
bound_of b (multiply t u) = bound_of b t * bound_of b u
bound_of b (square t) = bound_of b t * bound_of b t

-- how many times more than 1/(n + 1) two values differ at most, where coordinates differ by at most c of them
abbrev pub rate_of : ℕ → ℕ → Term → ℕ
rate_of b c (constant q) = 0
rate_of b c (variable axis) = c
rate_of b c (negate t) = rate_of b c t
rate_of b c (add t u) = rate_of b c t + rate_of b c u
rate_of b c (multiply t u) = bound_of b t * rate_of b c u + bound_of b u * rate_of b c t
rate_of b c (square t) = bound_of b t * rate_of b c t + bound_of b t * rate_of b c t

-- of all atoms together
abbrev pub rate_of_all : ℕ → ℕ → List Atom → ℕ
rate_of_all b c [] = 0
rate_of_all b c (a ∷ atoms) = rate_of b c a.0 + rate_of_all b c atoms

-- two points of these sorts: fractions of sizes of at most b, that differ by at most c/(n + 1), and the same truth values
abbrev pub AreClose : ℕ → ℕ → ℕ → List Sort → List Coordinate → List Coordinate → Type 0
AreClose b c n [] [] [] = Unit {0}
AreClose b c n (real_sort ∷ sorts) (at_fraction p ∷ ps) (at_fraction q ∷ qs) = (IsFraction p × IsFraction q × IsSized b p × IsSized b q × IsClose c n p q) × AreClose b c n sorts ps qs
AreClose b c n (bool_sort ∷ sorts) (at_bool v ∷ ps) (at_bool w ∷ qs) = (v ≡ w) × AreClose b c n sorts ps qs
AreClose b c n _ _ _ = ⊥

module _ (b c n : ℕ) where
  coordinate-close : (sorts : List Sort) (ps qs : List Coordinate) (axis : ℕ) → AreClose b c n sorts ps qs → HasSort real_sort sorts axis →
      IsFraction (coordinate ps axis) × IsFraction (coordinate qs axis) × IsSized b (coordinate ps axis) × IsSized b (coordinate qs axis) × IsClose c n (coordinate ps axis) (coordinate qs axis)
  coordinate-close [] ps qs axis h s = elim s [ ]
  coordinate-close (real_sort ∷ sorts) (at_fraction p ∷ ps) (at_fraction q ∷ qs) zero h s = h.0
  coordinate-close (real_sort ∷ sorts) (at_fraction p ∷ ps) (at_fraction q ∷ qs) (suc axis) h s = coordinate-close sorts ps qs axis h.1 s
  coordinate-close (bool_sort ∷ sorts) (at_bool v ∷ ps) (at_bool w ∷ qs) (suc axis) h s = coordinate-close sorts ps qs axis h.1 s
  coordinate-close (bool_sort ∷ sorts) ps qs zero h s = elim s [ ]
  coordinate-close (real_sort ∷ sorts) [] qs axis h s = elim h [ ]
  coordinate-close (real_sort ∷ sorts) (at_bool v ∷ ps) qs axis h s = elim h [ ]
  coordinate-close (real_sort ∷ sorts) (at_fraction p ∷ ps) [] axis h s = elim h [ ]
  coordinate-close (real_sort ∷ sorts) (at_fraction p ∷ ps) (at_bool w ∷ qs) axis h s = elim h [ ]
  coordinate-close (bool_sort ∷ sorts) [] qs (suc axis) h s = elim h [ ]
  coordinate-close (bool_sort ∷ sorts) (at_fraction p ∷ ps) qs (suc axis) h s = elim h [ ]
  coordinate-close (bool_sort ∷ sorts) (at_bool v ∷ ps) [] (suc axis) h s = elim h [ ]
  coordinate-close (bool_sort ∷ sorts) (at_bool v ∷ ps) (at_fraction q ∷ qs) (suc axis) h s = elim h [ ]

  module _ (sorts : List Sort) (ps qs : List Coordinate) (near : AreClose b c n sorts ps qs) where
    -- the values of a term at both points
    pub record Values (t : Term) : Type 0 where
      pub is : IsFraction (term_value ps t)
      pub also : IsFraction (term_value qs t)
      pub sized : IsSized (bound_of b t) (term_value ps t)
      pub also_sized : IsSized (bound_of b t) (term_value qs t)
      pub close : IsClose (rate_of b c t) n (term_value ps t) (term_value qs t)

    product-values : (t u : Term) → Values t → Values u → Values (multiply t u)
    product-values t u v w = record {
      is = product_is (term_value ps t) (term_value ps u) v.is w.is;
      also = product_is (term_value qs t) (term_value qs u) v.also w.also;
      sized = sized_product (bound_of b t) (bound_of b u) (term_value ps t) (term_value ps u) v.sized w.sized;
      also_sized = sized_product (bound_of b t) (bound_of b u) (term_value qs t) (term_value qs u) v.also_sized w.also_sized;
      close = close_product (bound_of b t) (bound_of b u) (rate_of b c t) (rate_of b c u) n (term_value ps t) (term_value qs t) (term_value ps u) (term_value qs u) v.is w.also v.sized w.also_sized v.close w.close;
    }

    pub values : (t : Term) → IsTerm sorts t → Values t
    values (constant q) h = record { is = h; also = h; sized = sized_constant q h; also_sized = sized_constant q h; close = close_itself 0 n q }
    values (variable axis) h = let k = coordinate-close sorts ps qs axis near h in record { is = k.0; also = k.1; sized = k.2; also_sized = k.3; close = k.4 }
    values (negate t) h = let v = values t h in record {
      is = negated_is (term_value ps t) v.is;
      also = negated_is (term_value qs t) v.also;
      sized = sized_negated (bound_of b t) (term_value ps t) v.sized;
      also_sized = sized_negated (bound_of b t) (term_value qs t) v.also_sized;
      close = close_negated (rate_of b c t) n (term_value ps t) (term_value qs t) v.close;
    }
    values (add t u) h = let v = values t h.0 in let w = values u h.1 in record {
      is = sum_is (term_value ps t) (term_value ps u) v.is w.is;
      also = sum_is (term_value qs t) (term_value qs u) v.also w.also;
      sized = sized_sum (bound_of b t) (bound_of b u) (term_value ps t) (term_value ps u) v.sized w.sized;
      also_sized = sized_sum (bound_of b t) (bound_of b u) (term_value qs t) (term_value qs u) v.also_sized w.also_sized;
      close = close_sum (rate_of b c t) (rate_of b c u) n (term_value ps t) (term_value qs t) (term_value ps u) (term_value qs u) v.close w.close;
    }
    values (multiply t u) h = product-values t u (values t h.0) (values u h.1)
    values (square t) h = let v = values t h in let w = product-values t t v v in record { is = w.is; also = w.also; sized = w.sized; also_sized = w.also_sized; close = w.close }

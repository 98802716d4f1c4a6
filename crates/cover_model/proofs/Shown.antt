-- Spaces of one point.
use Rattle.std.proofs.Common.{inl, inr, List, [], ◌∷◌, true, false, IsTrue, refl, subst, lit<}
use Rattle.dyadic.specs.Fraction.{at_most}
use Rattle.dyadic.specs.Point.{Sort, Coordinate, IsPoint}
use Rattle.dyadic.specs.Rounding.{Dyadic, exact}
use Rattle.dyadic.proofs.Equal.{both_pass, total}
use Rattle.interval_model.specs.Space.{Domain, real_domain, bool_domain, Space, in_domain, in_space}
use Rattle.poly_graph.specs.Problem.{Declared, real_between, any_bool, Axis, sort_of, sorts_of_axes}
use Rattle.cover_model.specs.State.{delta_of}
use Rattle.cover_model.specs.Fits.{IsSingle, AreSingle, coordinate_of, coordinates}
use Rattle.cover_model.specs.Laws.{ShownPointMeets}
use Rattle.cover_model.proofs.May.{sure_means}

own-end : (d : Dyadic) → IsTrue (at_most (exact d) (exact d))
own-end d = elim (total (exact d) (exact d)) [ inl h ↦ h | inr h ↦ h ]

single-in : (a : Declared) (d : Domain) → IsSingle a d → IsTrue (in_domain d (coordinate_of d))
single-in (real_between lo hi) (real_domain l h) e = both_pass (at_most (exact l) (exact l)) (at_most (exact l) (exact h)) (own-end l) (subst (λ (u : Dyadic). IsTrue (at_most (exact l) (exact u))) e (own-end l))
single-in any_bool (bool_domain true false) e = refl
single-in any_bool (bool_domain false true) e = refl
single-in any_bool (bool_domain true true) e = elim e [ ]
single-in any_bool (bool_domain false false) e = elim e [ ]
single-in (real_between lo hi) (bool_domain f t) e = elim e [ ]
single-in any_bool (real_domain l h) e = elim e [ ]

-- a point with one value on each axis lies in its own space
pub single_inside : (axes : List Axis) (space : Space) → AreSingle axes space → IsTrue (in_space space (coordinates space))
single_inside [] [] h = refl
single_inside (a ∷ axes) (d ∷ space) h = both_pass (in_domain d (coordinate_of d)) (in_space space (coordinates space)) (single-in a.declared d h.0) (single_inside axes space h.1)
single_inside [] (d ∷ space) h = elim h [ ]
single_inside (a ∷ axes) [] h = elim h [ ]

first-sorted : (a : Declared) (d : Domain) (sorts : List Sort) (point : List Coordinate) → IsSingle a d → IsPoint sorts point → IsPoint (sort_of a ∷ sorts) (coordinate_of d ∷ point)
first-sorted (real_between lo hi) (real_domain l h) sorts point e q = (lit< tt, q)
first-sorted any_bool (bool_domain f t) sorts point e q = q
first-sorted (real_between lo hi) (bool_domain f t) sorts point e q = elim e [ ]
first-sorted any_bool (real_domain l h) sorts point e q = elim e [ ]

pub single_sorted : (axes : List Axis) (space : Space) → AreSingle axes space → IsPoint (sorts_of_axes axes) (coordinates space)
single_sorted [] [] h = tt
single_sorted (a ∷ axes) (d ∷ space) h = first-sorted a.declared d (sorts_of_axes axes) (coordinates space) h.0 (single_sorted axes space h.1)
single_sorted [] (d ∷ space) h = elim h [ ]
single_sorted (a ∷ axes) [] h = elim h [ ]

pub shown_point_meets : ShownPointMeets
shown_point_meets p g s space i =
    let q = single_sorted p.axes space i.single in
    (q, sure_means p g (delta_of s) space (coordinates space) q (single_inside p.axes space i.single) i.surely)

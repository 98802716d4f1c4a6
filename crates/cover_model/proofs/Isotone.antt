-- Over a smaller space a term's enclosure lies within.
use Rattle.std.proofs.Common.{ℕ, suc, zero, List, [], ◌∷◌, IsTrue, refl, sym, true≢false}
use Rattle.dyadic.specs.Point.{Sort}
use Rattle.dyadic.specs.Rounding.{down, up}
use Rattle.interval_model.specs.Interval.{within, between}
use Rattle.dyadic.proofs.Equal.{both_true}
use Rattle.interval_model.proofs.Holds.{rounded_fraction_holds}
use Rattle.interval_model.proofs.Isotone.{IsProper, proper_from, sum_proper, negated_proper, product_proper, square_proper, within_refl, sum_isotone, negated_isotone, product_isotone, square_isotone}
use Rattle.poly_graph.specs.Term.{Term, constant, variable, negate, add, multiply, square}
use Rattle.interval_model.specs.Space.{Domain, real_domain, bool_domain, Space, axis_interval, domain_interval, is_upright_domain, is_upright, domain_within, space_within}
use Rattle.cover_model.specs.Space.{enclosure}
use Rattle.poly_graph.specs.Problem.{IsTerm}

domain-proper : (d : Domain) → IsTrue (is_upright_domain d) → IsProper (domain_interval d)
domain-proper (real_domain l h) u = (u, tt, tt)
domain-proper (bool_domain f t) u = tt

axis-proper : (space : Space) (axis : ℕ) → IsTrue (is_upright space) → IsProper (axis_interval space axis)
axis-proper [] axis u = tt
axis-proper (d ∷ space) zero u = domain-proper d (both_true (is_upright_domain d) (is_upright space) u).0
axis-proper (d ∷ space) (suc axis) u = axis-proper space axis (both_true (is_upright_domain d) (is_upright space) u).1

-- the enclosure over an upright space has its ends in order
pub enclosure_proper : (sorts : List Sort) (space : Space) → IsTrue (is_upright space) → (t : Term) → IsTerm sorts t → IsProper (enclosure space t)
enclosure_proper sorts space u (constant q) g = proper_from (between (down q) (up q)) q g (rounded_fraction_holds q g)
enclosure_proper sorts space u (variable axis) g = axis-proper space axis u
enclosure_proper sorts space u (negate t) g = negated_proper (enclosure space t) (enclosure_proper sorts space u t g)
enclosure_proper sorts space u (add t t') g = sum_proper (enclosure space t) (enclosure space t') (enclosure_proper sorts space u t g.0) (enclosure_proper sorts space u t' g.1)
enclosure_proper sorts space u (multiply t t') g = product_proper (enclosure space t) (enclosure space t') (enclosure_proper sorts space u t g.0) (enclosure_proper sorts space u t' g.1)
enclosure_proper sorts space u (square t) g = square_proper (enclosure space t) (enclosure_proper sorts space u t g)

domain-isotone : (d e : Domain) → IsTrue (domain_within d e) → IsTrue (within (domain_interval d) (domain_interval e))
domain-isotone (real_domain l h) (real_domain l' h') w = w
domain-isotone (bool_domain f t) e w = refl
domain-isotone (real_domain l h) (bool_domain f t) w = absurd (true≢false (sym w))

axis-isotone : (space outer : Space) (axis : ℕ) → IsTrue (space_within space outer) → IsTrue (within (axis_interval space axis) (axis_interval outer axis))
axis-isotone [] outer axis w = refl
axis-isotone (d ∷ space) [] axis w = absurd (true≢false (sym w))
axis-isotone (d ∷ space) (e ∷ outer) zero w = domain-isotone d e (both_true (domain_within d e) (space_within space outer) w).0
axis-isotone (d ∷ space) (e ∷ outer) (suc axis) w = axis-isotone space outer axis (both_true (domain_within d e) (space_within space outer) w).1

-- over a space within another the enclosure lies within the other's
pub enclosure_isotone : (sorts : List Sort) (space outer : Space) → IsTrue (is_upright space) → IsTrue (space_within space outer) → (t : Term) → IsTerm sorts t → IsTrue (within (enclosure space t) (enclosure outer t))
enclosure_isotone sorts space outer u w (constant q) g = within_refl (between (down q) (up q))
enclosure_isotone sorts space outer u w (variable axis) g = axis-isotone space outer axis w
enclosure_isotone sorts space outer u w (negate t) g = negated_isotone (enclosure space t) (enclosure outer t) (enclosure_isotone sorts space outer u w t g)
enclosure_isotone sorts space outer u w (add t t') g = sum_isotone (enclosure space t) (enclosure space t') (enclosure outer t) (enclosure outer t') (enclosure_isotone sorts space outer u w t g.0) (enclosure_isotone sorts space outer u w t' g.1)
enclosure_isotone sorts space outer u w (multiply t t') g = product_isotone (enclosure space t) (enclosure space t') (enclosure outer t) (enclosure outer t') (enclosure_proper sorts space u t g.0) (enclosure_proper sorts space u t' g.1)
    (enclosure_isotone sorts space outer u w t g.0) (enclosure_isotone sorts space outer u w t' g.1)
enclosure_isotone sorts space outer u w (square t) g = square_isotone (enclosure space t) (enclosure outer t) (enclosure_proper sorts space u t g) (enclosure_isotone sorts space outer u w t g)

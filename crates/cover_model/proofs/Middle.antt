-- The middle of a space, and the root space.
use Rattle.std.proofs.Common.{ℕ, suc, zero, List, [], ◌∷◌, Bool, true, false, not, IsTrue, refl, arith}
use Rattle.std.specs.Prelude.{All}
use Rattle.dyadic.specs.Fraction.{at_most}
use Rattle.dyadic.specs.Rounding.{exact, mid}
use Rattle.dyadic.proofs.Equal.{both_true, both_pass, through}
use Rattle.interval_model.proofs.EndsProducts.{at_most_refl}
use Rattle.dyadic.proofs.RoundsMid.{mid_between}
use Rattle.interval_model.specs.Space.{Domain, real_domain, bool_domain, is_upright_domain, is_upright, domain_within, space_within, middle_domain, middle}
use Rattle.cover_model.specs.Space.{IsGridDomain, IsGridSpace}
use Rattle.poly_graph.specs.Problem.{Declared, real_between, any_bool, Axis, IsDeclared, is_crossed, crossed_in}
use Rattle.cover_model.specs.Root.{root_domain, root_of_axes}
use Rattle.cover_model.specs.Laws.{MiddleLiesWithin, RootIsUpright}
use Rattle.cover_model.proofs.Root.{bound_down, bound_up}

record Lies (d : Domain) : Type 0 where
  within : IsTrue (domain_within (middle_domain d) d)
  upright : IsTrue (is_upright_domain (middle_domain d))
  on_grid : IsGridDomain (middle_domain d)

domain-middle : (d : Domain) → IsGridDomain d → IsTrue (is_upright_domain d) → Lies d
domain-middle (real_domain l h) g u = let m = mid_between l h g.0 u in record {
  within = both_pass (at_most (exact l) (exact (mid l h))) (at_most (exact (mid l h)) (exact h)) m.from_low m.to_high;
  upright = at_most_refl (exact (mid l h));
  on_grid = (m.on_grid, m.on_grid);
}
domain-middle (bool_domain true true) g u = record { within = refl; upright = refl; on_grid = tt }
domain-middle (bool_domain true false) g u = record { within = refl; upright = refl; on_grid = tt }
domain-middle (bool_domain false true) g u = record { within = refl; upright = refl; on_grid = tt }
domain-middle (bool_domain false false) g u = record { within = refl; upright = refl; on_grid = tt }

pub middle_lies_within : MiddleLiesWithin
middle_lies_within [] g u = (refl, refl, tt)
middle_lies_within (d ∷ space) g u =
    let e = both_true (is_upright_domain d) (is_upright space) u in let m = domain-middle d g.0 e.0 in let r = middle_lies_within space g.1 e.1 in (
      both_pass (domain_within (middle_domain d) d) (space_within (middle space) space) m.within r.0,
      both_pass (is_upright_domain (middle_domain d)) (is_upright (middle space)) m.upright r.1,
      (m.on_grid, r.2),
    )

-- ---- the root

root-domain : (d : Declared) → IsDeclared d → IsTrue (not (is_crossed d)) → IsTrue (is_upright_domain (root_domain d)) × IsGridDomain (root_domain d)
root-domain (real_between l h) b c = let low = bound_down l b.0 in let high = bound_up h b.1 in
    rw (low.is, high.is) (through (exact low.number) l (exact high.number) b.0.0 low.below (through l h (exact high.number) b.1.0 (in-order (at_most l h) c) high.above), (low.on_grid, high.on_grid))
  where
    in-order : (b : Bool) → IsTrue (not (not b)) → IsTrue b
    in-order true h = refl
    in-order false h = h
root-domain any_bool b c = (refl, tt)

root-axes : (axes : List Axis) → All (λ (a : Axis). IsDeclared a.declared) axes → ((i : ℕ) → IsTrue (not (crossed_in axes i))) → IsTrue (is_upright (root_of_axes axes)) × IsGridSpace (root_of_axes axes)
root-axes [] b c = (refl, tt)
root-axes (a ∷ axes) b c = let d = root-domain a.declared (b zero a (omega arith)) (c zero) in let r = root-axes axes (λ k e l. b (suc k) e (omega arith)) (λ i. c (suc i)) in
    (both_pass (is_upright_domain (root_domain a.declared)) (is_upright (root_of_axes axes)) d.0 r.0, (d.1, r.1))

pub root_is_upright : RootIsUpright
root_is_upright p g c = root-axes p.axes g.bounds c

-- A problem that meets what is asked of problems, and its point.
use Rattle.std.proofs.Common.{inr, ℕ, zero, suc, ◌<◌, [], ◌∷◌, refl, arith, lit<}
use Rattle.std.specs.Prelude.{All}
use Rattle.std.specs.Int.{IsGcd}
use Rattle.std.proofs.lemmas.Nat.Gcd.{dvd_refl}
use Rattle.dyadic.specs.Point.{at_fraction}
use Rattle.poly_graph.specs.Term.{Kind}
use Rattle.poly_graph.specs.Problem.{IsProblem, Axis, IsDeclared, IsNode, sorts_of_axes}
use Rattle.cover_model.specs.State.{root_state, IsPointOf}
use Rattle.cover_model.proofs.Root.{root_has}
use Rattle.cover_model.proofs.Rows.{sum_of_square, fraction, loosenings}

bounds : All (λ (a : Axis). IsDeclared a.declared) sum_of_square.axes
unfolding Rattle.dyadic.specs.Fraction.at_most
bounds zero d h = ((lit< tt, inr refl), (lit< tt, inr refl))
bounds (suc k) d h = absurd (omega arith)

one-and-one : IsGcd 1 1 1
one-and-one = (dvd_refl 1, dvd_refl 1, λ d h k. h)

nodes : All (IsNode (sorts_of_axes sum_of_square.axes)) sum_of_square.nodes
nodes zero d h = tt
nodes (suc zero) d h = tt
nodes (suc (suc zero)) d h = (lit< tt, one-and-one, omega arith, omega arith)
nodes (suc (suc (suc zero))) d h = tt
nodes (suc (suc (suc (suc k)))) d h = absurd (omega arith)

atoms : All (λ (a : ℕ × Kind). a.0 < 4) sum_of_square.atoms
atoms zero d h = omega arith
atoms (suc k) d h = absurd (omega arith)

pub is_problem : IsProblem sum_of_square
is_problem = record { bounds = bounds; ordered = refl; nodes = nodes; atoms = atoms; form = (omega arith, tt) }

pub has_point : IsPointOf sum_of_square loosenings (root_state sum_of_square) (at_fraction (fraction 1 2) ∷ [])
unfolding Rattle.dyadic.specs.Fraction.at_most
has_point = root_has sum_of_square is_problem loosenings (at_fraction (fraction 1 2) ∷ []) (lit< tt, tt) refl

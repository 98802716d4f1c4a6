-- x in [0, 1] with x * x = -1: its text, its problem, its certificate, and what follows.
use Rattle.std.proofs.Common.{◌≡◌, ℕ, zero, suc, ◌<◌, List, [], ◌∷◌, pos, negsuc, None, codes, refl, arith, slice_index_or, lit<, length}
use Rattle.std.specs.Prelude.{All}
use Rattle.std.specs.Int.{IsGcd}
use Rattle.std.proofs.lemmas.Nat.Gcd.{dvd_refl, dvd-zero}
use Rattle.dyadic.specs.Fraction.{whole}
use Rattle.dyadic.specs.Rounding.{exact, two_to_minus}
use Rattle.script_model.specs.Script.{Command}
use Rattle.smt_script.specs.Commands.{script_of}
use Rattle.poly_graph.specs.Term.{Kind, constant_node, variable_node, negate_node, add_node, square_node, le, eq}
use Rattle.poly_graph.specs.Form.{atom_is, all_form, no_forms, more_forms}
use Rattle.poly_graph.specs.Problem.{Problem, IsProblem, Axis, IsDeclared, IsNode, sorts_of_axes, real_between, full_atom, no_atom}
use Rattle.script_forms.specs.Atoms.{script_atoms}
use Rattle.script_forms.specs.ProblemOf.{IsProblemOf}
use Rattle.cert_model.specs.Due.{left_open}
use Rattle.cert_model.specs.Accepted.{IsAccepted}
use Rattle.cover_model.specs.State.{Loosenings}
use Rattle.headline.specs.Laws.{HasNoPoint}
use Rattle.headline.proofs.Headline.{unsat_is}
use Rattle.meaning_rows.proofs.Decided.{or_none, small_bound, apart_from_one}

abbrev text : List ℕ
text = codes "(declare-const x Real)\n(assert (<= 0 x 1))\n(assert (= (* x x) (- 1)))\n(check-sat)\n"

abbrev pub script : List Command
script = or_none (script_of text)

abbrev pub problem : Problem
problem = record {
  axes = record { name = codes "x"; declared = real_between (whole (pos 0)) (whole (pos 1)) } ∷ [];
  nodes = constant_node (whole (pos 0)) ∷ variable_node 0 ∷ negate_node 1 ∷ add_node 0 2 ∷ constant_node (whole (negsuc 0)) ∷ add_node 1 4 ∷
      square_node 1 ∷ constant_node (whole (pos 1)) ∷ add_node 6 7 ∷ [];
  atoms = (3, le) ∷ (5, le) ∷ (8, eq) ∷ [];
  form = all_form (more_forms (all_form (more_forms (atom_is 0) (more_forms (atom_is 1) no_forms))) (more_forms (atom_is 2) no_forms));
}

same-atoms : (j : ℕ) → j < 3 → full_atom problem j ≡ slice_index_or (script_atoms script) j no_atom
unfolding Rattle.dyadic.specs.Fraction.negated Rattle.dyadic.specs.Fraction.sum_of Rattle.dyadic.specs.Fraction.product_of
same-atoms zero h = refl
same-atoms (suc zero) h = refl
same-atoms (suc (suc zero)) h = refl
same-atoms (suc (suc (suc j))) h = absurd (omega (arith, h))

is_of_script : IsProblemOf None script problem
unfolding Rattle.dyadic.specs.Fraction.negated Rattle.dyadic.specs.Fraction.sum_of Rattle.dyadic.specs.Fraction.product_of Rattle.dyadic.specs.Fraction.at_most
is_of_script = record {
  unfolds = refl;
  bounded = refl;
  axes = (refl, ((lit< tt, refl, refl), (lit< tt, refl, refl)), tt);
  ordered = refl;
  count = refl;
  atoms = same-atoms;
  form = refl;
}

bounds : All (λ (a : Axis). IsDeclared a.declared) problem.axes
unfolding Rattle.dyadic.specs.Fraction.at_most
bounds zero d h = (small_bound (whole (pos 0)) (lit< tt) refl, small_bound (whole (pos 1)) (lit< tt) refl)
bounds (suc k) d h = absurd (omega arith)

nought-and-one : IsGcd 0 1 1
nought-and-one = (dvd-zero 1, dvd_refl 1, λ d h k. k)

nodes : All (IsNode (sorts_of_axes problem.axes)) problem.nodes
nodes zero d h = (lit< tt, nought-and-one, omega arith, omega arith)
nodes (suc zero) d h = tt
nodes (suc (suc zero)) d h = tt
nodes (suc (suc (suc zero))) d h = tt
nodes (suc (suc (suc (suc zero)))) d h = (lit< tt, apart_from_one, omega arith, omega arith)
nodes (suc (suc (suc (suc (suc zero))))) d h = tt
nodes (suc (suc (suc (suc (suc (suc zero)))))) d h = tt
nodes (suc (suc (suc (suc (suc (suc (suc zero))))))) d h = (lit< tt, apart_from_one, omega arith, omega arith)
nodes (suc (suc (suc (suc (suc (suc (suc (suc zero)))))))) d h = tt
nodes (suc (suc (suc (suc (suc (suc (suc (suc (suc k))))))))) d h = absurd (omega arith)

atoms : All (λ (a : ℕ × Kind). a.0 < length problem.nodes) problem.atoms
atoms zero d h = omega arith
atoms (suc zero) d h = omega arith
atoms (suc (suc zero)) d h = omega arith
atoms (suc (suc (suc k))) d h = absurd (omega arith)

is_problem : IsProblem problem
is_problem = record { bounds = bounds; ordered = refl; nodes = nodes; atoms = atoms; form = ((omega arith, (omega arith, tt)), (omega arith, tt)) }

abbrev certificate : List ℕ
certificate = codes "dpoly 1\nmargin 20\ndelta 10\nbound none\ncover 0\ntree\nfalse\nend\n"

abbrev usual : Loosenings
usual = record { margin_bits = 20; delta_bits = 10; version = 1 }

is_accepted : IsAccepted problem None certificate usual (left_open [])
unfolding Rattle.dyadic.specs.Fraction.negated Rattle.dyadic.specs.Fraction.sum_of Rattle.dyadic.specs.Fraction.product_of Rattle.dyadic.specs.Fraction.quotient_of Rattle.dyadic.specs.Fraction.at_most
is_accepted = refl

-- no x in [0, 1] has x * x within 2^-20 of -1
pub has_no_point : HasNoPoint None script (exact (two_to_minus 20))
has_no_point = unsat_is None script problem is_problem is_of_script certificate usual is_accepted

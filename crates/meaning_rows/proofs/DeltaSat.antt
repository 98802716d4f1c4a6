-- x in [0, 1] with nothing else that counts: its text, its problem, a point in its certificate, and what follows.
use Rattle.std.proofs.Common.{◌≡◌, ℕ, zero, suc, ◌<◌, ◌^◌, List, [], ◌∷◌, pos, negsuc, None, codes, refl, arith, slice_index_or, lit<, length}
use Rattle.std.specs.Prelude.{All}
use Rattle.std.specs.Int.{IsGcd}
use Rattle.std.proofs.lemmas.Nat.Gcd.{dvd_refl, dvd-zero}
use Rattle.dyadic.specs.Fraction.{whole}
use Rattle.dyadic.specs.Rounding.{exact, two_to_minus}
use Rattle.script_model.specs.Script.{Command, Satisfies}
use Rattle.smt_script.specs.Commands.{script_of}
use Rattle.poly_graph.specs.Term.{Kind, constant_node, variable_node, negate_node, add_node, le}
use Rattle.poly_graph.specs.Form.{atom_is, yes_form, all_form, no_forms, more_forms}
use Rattle.interval_model.specs.Space.{Space, real_domain}
use Rattle.poly_graph.specs.Problem.{Problem, IsProblem, Axis, IsDeclared, IsNode, sorts_of_axes, real_between, full_atom, no_atom}
use Rattle.script_forms.specs.Atoms.{script_atoms}
use Rattle.script_forms.specs.ProblemOf.{IsProblemOf}
use Rattle.cert_model.specs.Due.{at_point, coordinates}
use Rattle.cert_model.specs.Accepted.{IsAccepted}
use Rattle.cover_model.specs.State.{Loosenings}
use Rattle.headline.specs.Near.{IsNearDeclaredBox}
use Rattle.headline.proofs.Headline.{delta_sat_is}
use Rattle.meaning_rows.proofs.Decided.{or_none, small_bound, apart_from_one}

abbrev text : List ℕ
text = codes "(declare-const x Real)\n(assert (<= 0 x 1))\n(assert (distinct x x))\n(check-sat)\n"

abbrev pub script : List Command
script = or_none (script_of text)

abbrev pub problem : Problem
problem = record {
  axes = record { name = codes "x"; declared = real_between (whole (pos 0)) (whole (pos 1)) } ∷ [];
  nodes = constant_node (whole (pos 0)) ∷ variable_node 0 ∷ negate_node 1 ∷ add_node 0 2 ∷ constant_node (whole (negsuc 0)) ∷ add_node 1 4 ∷ [];
  atoms = (3, le) ∷ (5, le) ∷ [];
  form = all_form (more_forms (all_form (more_forms (atom_is 0) (more_forms (atom_is 1) no_forms))) (more_forms yes_form no_forms));
}

same-atoms : (j : ℕ) → j < 2 → full_atom problem j ≡ slice_index_or (script_atoms script) j no_atom
unfolding Rattle.dyadic.specs.Fraction.negated Rattle.dyadic.specs.Fraction.sum_of Rattle.dyadic.specs.Fraction.product_of
same-atoms zero h = refl
same-atoms (suc zero) h = refl
same-atoms (suc (suc j)) h = absurd (omega (arith, h))

is_of_script : IsProblemOf None script problem
unfolding Rattle.dyadic.specs.Fraction.negated Rattle.dyadic.specs.Fraction.sum_of Rattle.dyadic.specs.Fraction.product_of Rattle.dyadic.specs.Fraction.at_most
is_of_script = record {
  unfolds = refl;
  bounded = refl;
  axes = (refl, ((lit< tt, refl, refl), (lit< tt, refl, refl)), tt);
  ordered = refl;
  count = refl;
  atoms = same-atoms;
  form = refl;
}

bounds : All (λ (a : Axis). IsDeclared a.declared) problem.axes
unfolding Rattle.dyadic.specs.Fraction.at_most
bounds zero d h = (small_bound (whole (pos 0)) (lit< tt) refl, small_bound (whole (pos 1)) (lit< tt) refl)
bounds (suc k) d h = absurd (omega arith)

nought-and-one : IsGcd 0 1 1
nought-and-one = (dvd-zero 1, dvd_refl 1, λ d h k. k)

nodes : All (IsNode (sorts_of_axes problem.axes)) problem.nodes
nodes zero d h = (lit< tt, nought-and-one, omega arith, omega arith)
nodes (suc zero) d h = tt
nodes (suc (suc zero)) d h = tt
nodes (suc (suc (suc zero))) d h = tt
nodes (suc (suc (suc (suc zero)))) d h = (lit< tt, apart_from_one, omega arith, omega arith)
nodes (suc (suc (suc (suc (suc zero))))) d h = tt
nodes (suc (suc (suc (suc (suc (suc k)))))) d h = absurd (omega arith)

atoms : All (λ (a : ℕ × Kind). a.0 < length problem.nodes) problem.atoms
atoms zero d h = omega arith
atoms (suc zero) d h = omega arith
atoms (suc (suc k)) d h = absurd (omega arith)

is_problem : IsProblem problem
is_problem = record { bounds = bounds; ordered = refl; nodes = nodes; atoms = atoms; form = ((omega arith, (omega arith, tt)), (tt, tt)) }

abbrev certificate : List ℕ
certificate = codes "dpoly 1\nmargin 20\ndelta 10\nbound none\npoint\nreal 1b-1\nend\n"

abbrev usual : Loosenings
usual = record { margin_bits = 20; delta_bits = 10; version = 1 }

-- x = 1/2
abbrev half : Space
half = real_domain (record { units = pos (2 ^ 119) }) (record { units = pos (2 ^ 119) }) ∷ []

is_accepted : IsAccepted problem None certificate usual (at_point half)
unfolding Rattle.dyadic.specs.Fraction.negated Rattle.dyadic.specs.Fraction.sum_of Rattle.dyadic.specs.Fraction.product_of Rattle.dyadic.specs.Fraction.quotient_of Rattle.dyadic.specs.Fraction.at_most
is_accepted = refl

pub is_satisfied : Satisfies (exact (two_to_minus 10)) (coordinates half) script × IsNearDeclaredBox (exact (two_to_minus 10)) None script (coordinates half)
is_satisfied = delta_sat_is None script problem is_problem is_of_script certificate usual half is_accepted

-- A text with its problem: what is said of problems of a script can be met.
use Rattle.std.proofs.Common.{◌≡◌, ℕ, zero, suc, ◌<◌, List, [], ◌∷◌, pos, negsuc, None, codes, refl, arith, slice_index_or, lit<}
use Rattle.dyadic.specs.Fraction.{Fraction, whole}
use Rattle.script_model.specs.Script.{Command}
use Rattle.smt_script.specs.Commands.{script_of}
use Rattle.poly_graph.specs.Term.{constant_node, variable_node, negate_node, add_node, square_node, le, eq}
use Rattle.poly_graph.specs.Form.{atom_is, all_form, no_forms, more_forms}
use Rattle.poly_graph.specs.Problem.{Problem, real_between, full_atom, no_atom}
use Rattle.script_forms.specs.Atoms.{script_atoms}
use Rattle.script_forms.specs.ProblemOf.{IsProblemOf}
use Rattle.meaning_rows.proofs.Asked.{if_read}

abbrev text : List ℕ
text = codes "(declare-const x Real)\n(assert (<= 0 x 1))\n(assert (= (* x x) (- 1)))\n(check-sat)\n"

abbrev script : List Command
script = if_read (λ s. s) [] (script_of text)

abbrev problem : Problem
problem = record {
  axes = record { name = codes "x"; declared = real_between (whole (pos 0)) (whole (pos 1)) } ∷ [];
  nodes = constant_node (whole (pos 0)) ∷ variable_node 0 ∷ negate_node 1 ∷ add_node 0 2 ∷ constant_node (whole (negsuc 0)) ∷ add_node 1 4 ∷
      square_node 1 ∷ constant_node (whole (pos 1)) ∷ add_node 6 7 ∷ [];
  atoms = (3, le) ∷ (5, le) ∷ (8, eq) ∷ [];
  form = all_form (more_forms (all_form (more_forms (atom_is 0) (more_forms (atom_is 1) no_forms))) (more_forms (atom_is 2) no_forms));
}

same-atoms : (j : ℕ) → j < 3 → full_atom problem j ≡ slice_index_or (script_atoms script) j no_atom
unfolding Rattle.dyadic.specs.Fraction.negated Rattle.dyadic.specs.Fraction.sum_of Rattle.dyadic.specs.Fraction.product_of
same-atoms zero h = refl
same-atoms (suc zero) h = refl
same-atoms (suc (suc zero)) h = refl
same-atoms (suc (suc (suc j))) h = absurd (omega (arith, h))

is_problem : IsProblemOf None script problem
unfolding Rattle.dyadic.specs.Fraction.negated Rattle.dyadic.specs.Fraction.sum_of Rattle.dyadic.specs.Fraction.product_of Rattle.dyadic.specs.Fraction.at_most
is_problem = record {
  unfolds = refl;
  bounded = refl;
  axes = (refl, ((lit< tt, refl, refl), (lit< tt, refl, refl)), tt);
  ordered = refl;
  count = refl;
  atoms = same-atoms;
  form = refl;
}

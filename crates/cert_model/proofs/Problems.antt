-- Problems built by hand, for worked rows.
use Rattle.std.proofs.Common.{ℕ, List, [], ◌∷◌, ◌++◌, ◌^◌, ◌*◌, ◌-◌, pos, neg_ℤ, codes}
use Rattle.dyadic.specs.Fraction.{Fraction}
use Rattle.dyadic.specs.Rounding.{Dyadic}
use Rattle.poly_graph.specs.Term.{le, ge, eq, constant_node, variable_node, negate_node, add_node, multiply_node, square_node}
use Rattle.poly_graph.specs.Form.{Form, atom_is, all_form, any_form, no_forms, more_forms}
use Rattle.poly_graph.specs.Problem.{Axis, real_between, any_bool, Problem}

abbrev pub fraction : ℕ → ℕ → Fraction
fraction n d = record { num = pos n; den = d }

abbrev pub minus : ℕ → ℕ → Fraction
minus n d = record { num = neg_ℤ (pos n); den = d }

-- m * 2^-k
abbrev pub dyadic : ℕ → ℕ → Dyadic
dyadic m k = record { units = pos (m * 2 ^ (120 - k)) }

abbrev pub minus_dyadic : ℕ → ℕ → Dyadic
minus_dyadic m k = record { units = neg_ℤ (pos (m * 2 ^ (120 - k))) }

abbrev pub real_axis : List ℕ → Fraction → Fraction → Axis
real_axis name l h = record { name = name; declared = real_between l h }

abbrev pub both : Form ℕ → Form ℕ → Form ℕ
both f g = all_form (more_forms f (more_forms g no_forms))

abbrev pub either : Form ℕ → Form ℕ → Form ℕ
either f g = any_form (more_forms f (more_forms g no_forms))

-- x in [0, 1]: x * x + 1 = 0
abbrev pub no_root : Problem
no_root = record {
  axes = real_axis (codes "x") (fraction 0 1) (fraction 1 1) ∷ [];
  nodes = constant_node (fraction 0 1) ∷ variable_node 0 ∷ negate_node 1 ∷ add_node 0 2 ∷ constant_node (minus 1 1) ∷ add_node 1 4 ∷ square_node 1 ∷ constant_node (fraction 1 1) ∷ add_node 6 7 ∷ [];
  atoms = (3, le) ∷ (5, le) ∷ (8, eq) ∷ [];
  form = both (both (atom_is 0) (atom_is 1)) (atom_is 2);
}

-- x in [0, 1], and nothing else
abbrev pub unit_axis : Problem
unit_axis = record {
  axes = real_axis (codes "x") (fraction 0 1) (fraction 1 1) ∷ [];
  nodes = constant_node (fraction 0 1) ∷ variable_node 0 ∷ negate_node 1 ∷ add_node 0 2 ∷ constant_node (minus 1 1) ∷ add_node 1 4 ∷ [];
  atoms = (3, le) ∷ (5, le) ∷ [];
  form = all_form (more_forms (both (atom_is 0) (atom_is 1)) no_forms);
}

-- x at least 1 and at most 0
abbrev pub crossed : Problem
crossed = record {
  axes = real_axis (codes "x") (fraction 1 1) (fraction 0 1) ∷ [];
  nodes = variable_node 0 ∷ constant_node (minus 1 1) ∷ add_node 0 1 ∷ [];
  atoms = (2, ge) ∷ (0, le) ∷ [];
  form = both (atom_is 0) (atom_is 1);
}

-- x and y in [0, 2]: x * x + y * y = 1 and x * y = 1
abbrev pub circle : Problem
circle = record {
  axes = real_axis (codes "x") (fraction 0 1) (fraction 2 1) ∷ real_axis (codes "y") (fraction 0 1) (fraction 2 1) ∷ [];
  nodes = constant_node (fraction 0 1) ∷ variable_node 0 ∷ negate_node 1 ∷ add_node 0 2 ∷ constant_node (minus 2 1) ∷ add_node 1 4 ∷
      variable_node 1 ∷ negate_node 6 ∷ add_node 0 7 ∷ add_node 6 4 ∷ square_node 1 ∷ square_node 6 ∷ add_node 10 11 ∷ constant_node (minus 1 1) ∷ add_node 12 13 ∷
      multiply_node 1 6 ∷ add_node 15 13 ∷ [];
  atoms = (3, le) ∷ (5, le) ∷ (8, le) ∷ (9, le) ∷ (14, eq) ∷ (16, eq) ∷ [];
  form = all_form (more_forms (both (atom_is 0) (atom_is 1)) (more_forms (both (atom_is 2) (atom_is 3)) (more_forms (atom_is 4) (more_forms (atom_is 5) no_forms))));
}

-- y in [-8, 8]: y * y above 2
abbrev pub wide_axis : Problem
wide_axis = record {
  axes = real_axis (codes "y") (minus 8 1) (fraction 8 1) ∷ [];
  nodes = variable_node 0 ∷ square_node 0 ∷ constant_node (minus 2 1) ∷ add_node 1 2 ∷ [];
  atoms = (3, ge) ∷ [];
  form = all_form (more_forms (atom_is 0) no_forms);
}

-- x and y in [-1/2, 1/2]: x * y - y * x = 1/8
abbrev pub opposite_products : Problem
opposite_products = record {
  axes = real_axis (codes "x") (minus 1 2) (fraction 1 2) ∷ real_axis (codes "y") (minus 1 2) (fraction 1 2) ∷ [];
  nodes = constant_node (minus 1 2) ∷ variable_node 0 ∷ negate_node 1 ∷ add_node 0 2 ∷ add_node 1 0 ∷ variable_node 1 ∷ negate_node 5 ∷ add_node 0 6 ∷ add_node 5 0 ∷
      multiply_node 1 5 ∷ multiply_node 5 1 ∷ negate_node 10 ∷ add_node 9 11 ∷ constant_node (minus 1 8) ∷ add_node 12 13 ∷ [];
  atoms = (3, le) ∷ (4, le) ∷ (7, le) ∷ (8, le) ∷ (14, eq) ∷ [];
  form = all_form (more_forms (both (atom_is 0) (atom_is 1)) (more_forms (both (atom_is 2) (atom_is 3)) (more_forms (atom_is 4) no_forms)));
}

-- x in [0, 1]: x at least 3/4 or at most 1/4, and x * x = 1/4
abbrev pub two_sides : Problem
two_sides = record {
  axes = real_axis (codes "x") (fraction 0 1) (fraction 1 1) ∷ [];
  nodes = constant_node (fraction 0 1) ∷ variable_node 0 ∷ negate_node 1 ∷ add_node 0 2 ∷ constant_node (minus 1 1) ∷ add_node 1 4 ∷
      constant_node (minus 3 4) ∷ add_node 1 6 ∷ constant_node (minus 1 4) ∷ add_node 1 8 ∷ square_node 1 ∷ add_node 10 8 ∷ [];
  atoms = (3, le) ∷ (5, le) ∷ (7, ge) ∷ (9, le) ∷ (11, eq) ∷ [];
  form = all_form (more_forms (both (atom_is 0) (atom_is 1)) (more_forms (either (atom_is 2) (atom_is 3)) (more_forms (atom_is 4) no_forms)));
}

-- a Bool axis that is true
abbrev pub one_bool : Problem
one_bool = record {
  axes = record { name = codes "b"; declared = any_bool } ∷ [];
  nodes = [];
  atoms = [];
  form = all_form (more_forms (Rattle.poly_graph.specs.Form.bool_is 0 Rattle.std.proofs.Common.true) no_forms);
}

abbrev pub head : List ℕ
head = codes "dpoly 1\nmargin 20\ndelta 10\nbound none\n"

-- The code's types as the definitions see them.
use Rattle.std.specs.Prelude.{ℕ}
use Rattle.dyadic.specs.Views.{fraction_of_frac}
use Rattle.poly_graph.specs.declared.node.Kind.{Kind}
use Rattle.poly_graph.specs.declared.node.Kind.TheVariants as kinds
use Rattle.poly_graph.specs.declared.node.Node.{Node}
use Rattle.poly_graph.specs.declared.node.Node.TheVariants.{Const, Var, Neg, Add, Mul, Sq}
use Rattle.poly_graph.specs.declared.node.Atom.{Atom}
use Rattle.poly_graph.specs.Term
use Rattle.poly_graph.specs.Term.{constant_node, variable_node, negate_node, add_node, multiply_node, square_node}

abbrev pub node_of : Node → Term.Node
node_of (Const q) = constant_node (fraction_of_frac q)
node_of (Var axis) = variable_node axis
node_of (Neg a) = negate_node a
node_of (Add a b) = add_node a b
node_of (Mul a b) = multiply_node a b
node_of (Sq a) = square_node a

abbrev pub kind_of : Kind → Term.Kind
kind_of kinds.Le = Term.Kind.le
kind_of kinds.Ge = Term.Kind.ge
kind_of kinds.Eq = Term.Kind.eq

abbrev pub atom_of : Atom → ℕ × Term.Kind
atom_of a = (a.term, kind_of a.kind)

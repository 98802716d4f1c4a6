-- Polynomials of nodes, from those of the nodes before them.
use Rattle.std.specs.Prelude.{ℕ, List, [], ◌∷◌, slice_index_or}
use Rattle.dyadic.specs.Rounding.{down, up}
use Rattle.interval_model.specs.Interval.{Interval, between}
use Rattle.interval_model.specs.Space.{Space, axis_interval}
use Rattle.poly_graph.specs.Term.{Node, constant_node, variable_node, negate_node, add_node, multiply_node, square_node}
use Rattle.square_model.specs.Polynomial.{Polynomial, one_alone, constant_polynomial, polynomial_negated, polynomial_sum, polynomial_product}
use Rattle.square_model.specs.Steps.{sum_steps, product_steps}

abbrev pub terms_at : List Polynomial → ℕ → Polynomial
terms_at before k = slice_index_or before k []

-- an axis, which is this at the centre
abbrev pub variable_terms : ℕ → Interval → Polynomial
variable_terms axis centre = ([], centre) ∷ (axis ∷ [], one_alone) ∷ []

abbrev pub node_terms : Space → List Polynomial → Node → Polynomial
node_terms centre before (constant_node q) = constant_polynomial (between (down q) (up q))
node_terms centre before (variable_node axis) = variable_terms axis (axis_interval centre axis)
node_terms centre before (negate_node a) = polynomial_negated (terms_at before a)
node_terms centre before (add_node a b) = polynomial_sum (terms_at before a) (terms_at before b)
node_terms centre before (multiply_node a b) = polynomial_product (terms_at before a) (terms_at before b)
node_terms centre before (square_node a) = polynomial_product (terms_at before a) (terms_at before a)

-- how many steps it takes
abbrev pub node_cost : List Polynomial → Node → ℕ
node_cost before (add_node a b) = sum_steps (terms_at before a) (terms_at before b)
node_cost before (multiply_node a b) = product_steps (terms_at before a) (terms_at before b)
node_cost before (square_node a) = product_steps (terms_at before a) (terms_at before a)
node_cost before n = 0

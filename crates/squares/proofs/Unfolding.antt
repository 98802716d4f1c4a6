-- The polynomial of a node from those of its children is that of its term.
use Rattle.std.proofs.Common.{◌≡◌, ℕ, List, Bool, true, false, ◌||◌, Some, IsTrue, nat_eq, refl, ap, ap₂, sym, ◌∙◌, arith}
use Rattle.std.proofs.lemmas.Bool.Decides.{nat_tests}
use Rattle.std.specs.Prelude.{slice_get}
use Rattle.interval_model.specs.Space.{Space}
use Rattle.poly_graph.specs.Term.{Node, constant_node, variable_node, negate_node, add_node, multiply_node, square_node, in_order, has_child, graph_terms, node_term}
use Rattle.poly_graph.proofs.Graphs.{unfolds}
use Rattle.square_model.specs.Polynomial.{Polynomial, polynomial_of, polynomial_negated, polynomial_sum, polynomial_product}
use Rattle.square_model.specs.Positive.{node_polynomial, node_steps}
use Rattle.square_model.specs.Steps.{sum_steps, product_steps}
use Rattle.squares.specs.Nodes.{terms_at, node_terms, node_cost}

pub is_itself : (a : ℕ) → nat_eq a a ≡ true
is_itself a = grind (arith, nat_tests)

pub first_of : (a b : ℕ) → (nat_eq a a || nat_eq b a) ≡ true
first_of a b = ap (λ (t : Bool). t || nat_eq b a) (is_itself a)

pub second_of : (a b : ℕ) → (nat_eq a b || nat_eq b b) ≡ true
second_of a b = ap (λ (t : Bool). nat_eq a b || t) (is_itself b) ∙ either (nat_eq a b)
  where
    either : (t : Bool) → (t || true) ≡ true
    either true = refl
    either false = refl

-- the children's polynomials are those of their terms
abbrev pub HasChildren : Space → List Node → List Polynomial → Node → Type 0
HasChildren centre nodes ts node = (i : ℕ) → has_child i node ≡ true → terms_at ts i ≡ node_polynomial centre nodes i

by-kind : (centre : Space) (nodes : List Node) (ts : List Polynomial) (node : Node) → HasChildren centre nodes ts node → node_terms centre ts node ≡ polynomial_of centre (node_term (graph_terms nodes) node)
by-kind centre nodes ts (constant_node q) h = refl
by-kind centre nodes ts (variable_node axis) h = refl
by-kind centre nodes ts (negate_node a) h = ap polynomial_negated (h a (is_itself a))
by-kind centre nodes ts (add_node a b) h = ap₂ polynomial_sum (h a (first_of a b)) (h b (second_of a b))
by-kind centre nodes ts (multiply_node a b) h = ap₂ polynomial_product (h a (first_of a b)) (h b (second_of a b))
by-kind centre nodes ts (square_node a) h = ap (λ (p : Polynomial). polynomial_product p p) (h a (is_itself a))

pub node_unfolds : (centre : Space) (nodes : List Node) → IsTrue (in_order 0 nodes) → (ts : List Polynomial) (k : ℕ) (node : Node) → slice_get nodes k ≡ Some node → HasChildren centre nodes ts node →
    node_terms centre ts node ≡ node_polynomial centre nodes k
node_unfolds centre nodes o ts k node e h = by-kind centre nodes ts node h ∙ ap (polynomial_of centre) (sym (unfolds nodes o k node e))

pub node_costs : (centre : Space) (nodes : List Node) (ts : List Polynomial) (node : Node) → HasChildren centre nodes ts node → node_cost ts node ≡ node_steps centre nodes (Some node)
node_costs centre nodes ts (constant_node q) h = refl
node_costs centre nodes ts (variable_node axis) h = refl
node_costs centre nodes ts (negate_node a) h = refl
node_costs centre nodes ts (add_node a b) h = ap₂ sum_steps (h a (first_of a b)) (h b (second_of a b))
node_costs centre nodes ts (multiply_node a b) h = ap₂ product_steps (h a (first_of a b)) (h b (second_of a b))
node_costs centre nodes ts (square_node a) h = ap (λ (p : Polynomial). product_steps p p) (h a (is_itself a))

-- What is proved of graphs, forms and marks.
use Rattle.std.specs.Prelude.{◌≡◌, ℕ, List, length, slice_get, slice_index_or, IsTrue, Some}
use Rattle.dyadic.specs.Fraction.{zero_fraction}
use Rattle.poly_graph.specs.Term.{constant, Node, in_order, graph_terms, node_term}
use Rattle.poly_graph.specs.FormGraph.{FormNode, forms_in_order, form_at, graph_forms, node_form}
use Rattle.poly_graph.specs.Marks.{Mark, marks_of, yes_of, no_of}

-- In a graph whose children come first the term of a node is that of its kind over its children's terms.
abbrev pub NodeIsItsKind : Type 0
NodeIsItsKind = (nodes : List Node) → IsTrue (in_order 0 nodes) → (k : ℕ) (n : Node) → slice_get nodes k ≡ Some n →
    slice_index_or (graph_terms nodes) k (constant zero_fraction) ≡ node_term (graph_terms nodes) n

-- So equal nodes have equal terms.
abbrev pub EqualNodesAgree : Type 0
EqualNodesAgree = (nodes : List Node) → IsTrue (in_order 0 nodes) → (j k : ℕ) (n : Node) → slice_get nodes j ≡ Some n → slice_get nodes k ≡ Some n →
    slice_index_or (graph_terms nodes) j (constant zero_fraction) ≡ slice_index_or (graph_terms nodes) k (constant zero_fraction)

-- Marks are those of the two lists that are read off them.
abbrev pub MarksOfLists : Type 0
MarksOfLists = (marks : List Mark) → marks_of (length marks) (yes_of marks) (no_of marks) ≡ marks

-- In a shared form whose children come first the form of a node is that of its kind over its children's forms.
abbrev pub FormNodeIsItsKind : Type 0
FormNodeIsItsKind = (nodes : List FormNode) → IsTrue (forms_in_order 0 nodes) → (k : ℕ) (n : FormNode) → slice_get nodes k ≡ Some n → form_at (graph_forms nodes) k ≡ node_form (graph_forms nodes) n

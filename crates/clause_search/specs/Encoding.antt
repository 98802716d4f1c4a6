-- The clauses of a form: each node that is no atom and no Bool value has a helper of the node's number.
use Rattle.std.specs.Prelude.{ℕ, zero, suc, List, [], ◌∷◌, ◌++◌, map, length, Bool, true, false, cond, Option, Some, None, slice_get, nat_lt}
use Rattle.poly_graph.specs.FormGraph.{FormNode, yes_node, no_node, atom_node, bool_node, all_node, any_node}
use Rattle.poly_graph.specs.Problem.{Declared, real_between, any_bool, Axis}
use Rattle.poly_graph.specs.ProblemViews.{Parts}
use Rattle.clause_search.specs.declared.literal.Variable.{Variable}
use Rattle.clause_search.specs.declared.literal.Variable.TheVariants.{Atom, BoolIs, Helper}
use Rattle.clause_search.specs.declared.literal.Literal.{Literal}

abbrev pub is_bool : Declared → Bool
is_bool (real_between l h) = false
is_bool any_bool = true

abbrev pub is_bool_in : Option Axis → Bool
is_bool_in (Some a) = is_bool a.declared
is_bool_in None = false

-- this is a Bool axis
abbrev pub is_bool_axis : List Axis → ℕ → Bool
is_bool_axis axes i = is_bool_in (slice_get axes i)

-- The variable of node k. A node that the root does not reach may name what the problem lacks: it has a helper.
abbrev pub variable_in : Parts → ℕ → Option FormNode → Variable
variable_in p k (Some (atom_node j)) = cond (nat_lt j (length p.atoms)) (Atom j) (Helper k)
variable_in p k (Some (bool_node i v)) = cond (is_bool_axis p.axes i) (BoolIs i v) (Helper k)
variable_in p k _ = Helper k

abbrev pub variable_at : Parts → ℕ → Variable
variable_at p k = variable_in p k (slice_get p.forms k)

abbrev pub literal : Variable → Bool → Literal
literal v positive = record { variable = v; positive = positive }

-- the literal of each of these nodes
abbrev pub literals_at : Parts → Bool → List ℕ → List Literal
literals_at p positive ks = map (λ k. literal (variable_at p k) positive) ks

-- for each of these nodes a clause of its literal beside the first one
abbrev pub pairs_at : Parts → Literal → Bool → List ℕ → List (List Literal)
pairs_at p first positive ks = map (λ k. first ∷ (literal (variable_at p k) positive ∷ [])) ks

-- the helper is true exactly where the node is (Tseitin 1968)
abbrev pub node_clauses : Parts → ℕ → FormNode → List (List Literal)
node_clauses p k yes_node = (literal (Helper k) true ∷ []) ∷ []
node_clauses p k no_node = (literal (Helper k) false ∷ []) ∷ []
node_clauses p k (atom_node j) = []
node_clauses p k (bool_node i v) = []
node_clauses p k (all_node ks) = pairs_at p (literal (Helper k) false) true ks ++ ((literal (Helper k) true ∷ literals_at p false ks) ∷ [])
node_clauses p k (any_node ks) = pairs_at p (literal (Helper k) true) false ks ++ ((literal (Helper k) false ∷ literals_at p true ks) ∷ [])

-- those of node k
abbrev pub clauses_in : Parts → ℕ → Option FormNode → List (List Literal)
clauses_in p k (Some n) = node_clauses p k n
clauses_in p k None = []

abbrev pub clauses_at : Parts → ℕ → List (List Literal)
clauses_at p k = clauses_in p k (slice_get p.forms k)

-- those of the first n nodes
abbrev pub first_clauses : Parts → ℕ → List (List Literal)
first_clauses p zero = []
first_clauses p (suc n) = first_clauses p n ++ clauses_at p n

-- and the root is true
abbrev pub encoding : Parts → List (List Literal)
encoding p = first_clauses p (length p.forms) ++ ((literal (variable_at p p.root) true ∷ []) ∷ [])

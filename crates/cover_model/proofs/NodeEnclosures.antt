-- The enclosures of a graph's nodes, one after the other.
use Rattle.std.proofs.Common.{◌≡◌, ℕ, suc, zero, ◌+◌, ◌<◌, ◌≤◌, List, [], ◌∷◌, IsTrue, Some, refl, ap, ap₂, sym, ◌∙◌, subst, length, arith, nat_lt, ltb→lt}
use Rattle.std.proofs.lemmas.List.{get_or-map, ext_get_or, length-map}
use Rattle.std.proofs.lemmas.Bool.{lt-ltb}
use Rattle.std.specs.Prelude.{slice_get}
use Rattle.std.specs.Bool.{passes}
use Rattle.dyadic.specs.Fraction.{zero_fraction}
use Rattle.interval_model.specs.Interval.{Interval, nothing, interval_negated, interval_sum, interval_product, interval_square}
use Rattle.dyadic.proofs.Equal.{both_true, both_pass}
use Rattle.poly_graph.specs.Term.{Term, constant, Node, constant_node, variable_node, negate_node, add_node, multiply_node, square_node, node_term, graph_terms, comes_after, in_order}
use Rattle.interval_model.specs.Space.{Space}
use Rattle.cover_model.specs.Space.{enclosure}
use Rattle.cover_model.specs.Narrowed.{enclosures}
use Rattle.cover_model.specs.NodeEnclosure.{row, node_enclosure}
use Rattle.poly_graph.proofs.Graphs.{term_at, unfolds, length_terms, some_is}

pub length_enclosures : (space : Space) (nodes : List Node) → length (enclosures space nodes) ≡ length nodes
length_enclosures space nodes = length-map (graph_terms nodes) (enclosure space) ∙ length_terms nodes

-- a row is the enclosure of its node's term
pub row_of_term : (space : Space) (nodes : List Node) (k : ℕ) → k < length nodes → row (enclosures space nodes) k ≡ enclosure space (term_at (graph_terms nodes) k)
row_of_term space nodes k l = get_or-map (enclosure space) (graph_terms nodes) k (constant zero_fraction) nothing (omega (arith, length_terms nodes))

-- a node that stands somewhere comes after its children
pub order_at : (k : ℕ) (nodes : List Node) → IsTrue (in_order k nodes) → (i : ℕ) (p : Node) → slice_get nodes i ≡ Some p → IsTrue (comes_after (k + i) p) × (i < length nodes)
order_at k [] o i p e = cc
order_at k (n ∷ nodes) o zero p e = let start : k ≡ k + 0 = omega arith in
    (subst (λ (j : ℕ). IsTrue (comes_after j p)) start (subst (λ (m : Node). IsTrue (comes_after k m)) (some_is n p e) (both_true (comes_after k n) (in_order (suc k) nodes) o).0), omega arith)
order_at k (n ∷ nodes) o (suc i) p e = let h = order_at (suc k) nodes (both_true (comes_after k n) (in_order (suc k) nodes) o).1 i p e in let place : suc k + i ≡ k + suc i = omega arith in
    (subst (λ (j : ℕ). IsTrue (comes_after j p)) place h.0, let l = h.1 in omega arith)

pub comes_at : (nodes : List Node) → IsTrue (in_order 0 nodes) → (k : ℕ) (p : Node) → slice_get nodes k ≡ Some p → IsTrue (comes_after k p)
comes_at nodes o k p e = let place : 0 + k ≡ k = omega arith in subst (λ (j : ℕ). IsTrue (comes_after j p)) place (order_at 0 nodes o k p e).0

-- what comes after its children before number j does so before a later one
pub comes_later : (j k : ℕ) (n : Node) → j ≤ k → IsTrue (comes_after j n) → IsTrue (comes_after k n)
comes_later j k (constant_node q) l h = refl
comes_later j k (variable_node axis) l h = refl
comes_later j k (negate_node a) l h = lt-ltb a k (let b = ltb→lt a j (passes _ h) in omega arith)
comes_later j k (add_node a b) l h = let e = both_true (nat_lt a j) (nat_lt b j) h in
    both_pass (nat_lt a k) (nat_lt b k) (lt-ltb a k (let c = ltb→lt a j (passes _ e.0) in omega arith)) (lt-ltb b k (let c = ltb→lt b j (passes _ e.1) in omega arith))
comes_later j k (multiply_node a b) l h = let e = both_true (nat_lt a j) (nat_lt b j) h in
    both_pass (nat_lt a k) (nat_lt b k) (lt-ltb a k (let c = ltb→lt a j (passes _ e.0) in omega arith)) (lt-ltb b k (let c = ltb→lt b j (passes _ e.1) in omega arith))
comes_later j k (square_node a) l h = lt-ltb a k (let b = ltb→lt a j (passes _ h) in omega arith)

-- a node's enclosure follows from rows of its children that are their terms' enclosures
by-kind : (space : Space) (terms : List Term) (es : List Interval) (k : ℕ) (n : Node) → IsTrue (comes_after k n) → ((i : ℕ) → i < k → row es i ≡ enclosure space (term_at terms i)) →
    node_enclosure space es n ≡ enclosure space (node_term terms n)
by-kind space terms es k (constant_node q) o f = refl
by-kind space terms es k (variable_node axis) o f = refl
by-kind space terms es k (negate_node a) o f = ap interval_negated (f a (ltb→lt a k (passes _ o)))
by-kind space terms es k (add_node a b) o f = let e = both_true (nat_lt a k) (nat_lt b k) o in ap₂ interval_sum (f a (ltb→lt a k (passes _ e.0))) (f b (ltb→lt b k (passes _ e.1)))
by-kind space terms es k (multiply_node a b) o f = let e = both_true (nat_lt a k) (nat_lt b k) o in ap₂ interval_product (f a (ltb→lt a k (passes _ e.0))) (f b (ltb→lt b k (passes _ e.1)))
by-kind space terms es k (square_node a) o f = ap interval_square (f a (ltb→lt a k (passes _ o)))

-- the next row, where the rows before it are the enclosures
pub next_row : (space : Space) (nodes : List Node) → IsTrue (in_order 0 nodes) → (es : List Interval) (k : ℕ) (n : Node) → slice_get nodes k ≡ Some n →
    ((i : ℕ) → i < k → row es i ≡ row (enclosures space nodes) i) → node_enclosure space es n ≡ row (enclosures space nodes) k
next_row space nodes o es k n e f = let h = order_at 0 nodes o k n e in
    by-kind space (graph_terms nodes) es k n (comes_at nodes o k n e) (λ i l. f i l ∙ row_of_term space nodes i (let d = h.1 in omega arith))
    ∙ ap (enclosure space) (sym (unfolds nodes o k n e)) ∙ sym (row_of_term space nodes k h.1)

-- rows that agree with the enclosures in each place are the enclosures
pub all_rows : (space : Space) (nodes : List Node) (es : List Interval) → length es ≡ length nodes → ((i : ℕ) → i < length nodes → row es i ≡ row (enclosures space nodes) i) → es ≡ enclosures space nodes
all_rows space nodes es l f = ext_get_or nothing es (enclosures space nodes) (l ∙ sym (length_enclosures space nodes)) (λ i h. f i (omega (arith, l)))

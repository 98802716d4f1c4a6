-- In a graph where no node stands twice, equal terms have one number.
use Rattle.std.proofs.Common.{◌≡◌, ℕ, suc, zero, ◌<◌, ◌+◌, List, [], ◌∷◌, IsTrue, Some, refl, ap, ap₂, sym, ◌∙◌, length, arith, nat_lt, ltb→lt}
use Rattle.std.specs.Prelude.{slice_get}
use Rattle.std.specs.Bool.{passes}
use Rattle.dyadic.proofs.Equal.{both_true}
use Rattle.poly_graph.specs.Term.{Term, Node, constant_node, variable_node, negate_node, add_node, multiply_node, square_node, node_term, graph_terms, comes_after}
use Rattle.poly_graph.specs.Shared.{IsGraph, HaveSameTerm}
use Rattle.poly_graph.proofs.Graphs.{term_at, unfolds, in_order_at}

-- two nodes of equal terms are equal where their children are
same-by-children : (ts : List Term) (j k : ℕ) (m n : Node) → IsTrue (comes_after j m) → IsTrue (comes_after k n) → ((x y : ℕ) → x < j → y < k → term_at ts x ≡ term_at ts y → x ≡ y) →
    node_term ts m ≡ node_term ts n → m ≡ n
same-by-children ts j k (constant_node p) (constant_node q) o l f h = ap constant_node cc
same-by-children ts j k (variable_node a) (variable_node b) o l f h = ap variable_node cc
same-by-children ts j k (negate_node a) (negate_node b) o l f h = ap negate_node (f a b (ltb→lt a j (passes _ o)) (ltb→lt b k (passes _ l)) cc)
same-by-children ts j k (add_node a b) (add_node c d) o l f h = let e = both_true (nat_lt a j) (nat_lt b j) o in let g = both_true (nat_lt c k) (nat_lt d k) l in
    ap₂ add_node (f a c (ltb→lt a j (passes _ e.0)) (ltb→lt c k (passes _ g.0)) cc) (f b d (ltb→lt b j (passes _ e.1)) (ltb→lt d k (passes _ g.1)) cc)
same-by-children ts j k (multiply_node a b) (multiply_node c d) o l f h = let e = both_true (nat_lt a j) (nat_lt b j) o in let g = both_true (nat_lt c k) (nat_lt d k) l in
    ap₂ multiply_node (f a c (ltb→lt a j (passes _ e.0)) (ltb→lt c k (passes _ g.0)) cc) (f b d (ltb→lt b j (passes _ e.1)) (ltb→lt d k (passes _ g.1)) cc)
same-by-children ts j k (square_node a) (square_node b) o l f h = ap square_node (f a b (ltb→lt a j (passes _ o)) (ltb→lt b k (passes _ l)) cc)
same-by-children ts j k _ _ o l f h = cc

stands : {X : Type 0} (xs : List X) (k : ℕ) → k < length xs → (x : X) × (slice_get xs k ≡ Some x)
stands [] k h = absurd (omega arith)
stands (x ∷ xs) zero h = (x, refl)
stands (x ∷ xs) (suc k) h = stands xs k (omega arith)

one-below : (nodes : List Node) → IsGraph nodes → (most j k : ℕ) → j < most → j < length nodes → k < length nodes → HaveSameTerm nodes j k → j ≡ k
one-below nodes g zero j k less h i e = absurd (omega arith)
one-below nodes g (suc most) j k less h i e =
    let m = stands nodes j h in
    let n = stands nodes k i in
    let after-j = in_order_at 0 nodes g.ordered j m.0 m.1 in
    let after-k = in_order_at 0 nodes g.ordered k n.0 n.1 in
    let same : m.0 ≡ n.0 = same-by-children (graph_terms nodes) (0 + j) (0 + k) m.0 n.0 after-j.0 after-k.0 (λ x y l r s. one-below nodes g most x y (omega arith) (omega arith) (omega arith) s)
    (sym (unfolds nodes g.ordered j m.0 m.1) ∙ e ∙ unfolds nodes g.ordered k n.0 n.1) in
    g.once j k n.0 (m.1 ∙ ap (λ x. Some x) same) n.1

pub one_number : (nodes : List Node) → IsGraph nodes → (j k : ℕ) → j < length nodes → k < length nodes → HaveSameTerm nodes j k → j ≡ k
one_number nodes g j k h i e = one-below nodes g (suc j) j k (omega arith) h i e

-- The widths of a graph's nodes, one after the other.
use Rattle.std.proofs.Common.{◌≡◌, ℕ, ◌<◌, List, IsTrue, Some, refl, ap, ap₂, sym, ◌∙◌, length, arith, nat_lt, ltb→lt}
use Rattle.std.proofs.lemmas.List.{get_or-map, ext_get_or, length-map}
use Rattle.std.specs.Prelude.{slice_get}
use Rattle.std.specs.Bool.{passes}
use Rattle.dyadic.specs.Fraction.{zero_fraction}
use Rattle.dyadic.specs.Rounding.{Ext, above_all}
use Rattle.dyadic.proofs.Equal.{both_true}
use Rattle.interval_model.specs.Interval.{Interval}
use Rattle.interval_model.specs.Space.{Space}
use Rattle.poly_graph.specs.Term.{Term, constant, Node, constant_node, variable_node, negate_node, add_node, multiply_node, square_node, node_term, graph_terms, comes_after, in_order}
use Rattle.poly_graph.proofs.Graphs.{term_at, unfolds, length_terms}
use Rattle.cover_model.specs.Space.{enclosure}
use Rattle.cover_model.specs.Narrowed.{enclosures}
use Rattle.cover_model.specs.NodeEnclosure.{row}
use Rattle.cover_model.proofs.NodeEnclosures.{comes_at, order_at, row_of_term}
use Rattle.width_plan.specs.Width.{interval_size, width_sum, width_product, interval_width, rounding_width, two, width}
use Rattle.width_plan.specs.NodeWidth.{graph_widths, width_at, node_width}

pub length_widths : (box : Space) (bits : ℕ) (nodes : List Node) → length (graph_widths box bits nodes) ≡ length nodes
length_widths box bits nodes = length-map (graph_terms nodes) (width box bits) ∙ length_terms nodes

pub width_of_term : (box : Space) (bits : ℕ) (nodes : List Node) (k : ℕ) → k < length nodes → width_at (graph_widths box bits nodes) k ≡ width box bits (term_at (graph_terms nodes) k)
width_of_term box bits nodes k l = get_or-map (width box bits) (graph_terms nodes) k (constant zero_fraction) above_all (omega (arith, length_terms nodes))

by-kind : (box : Space) (bits : ℕ) (terms : List Term) (es : List Interval) (ws : List Ext) (k : ℕ) (n : Node) → IsTrue (comes_after k n) →
    ((i : ℕ) → i < k → row es i ≡ enclosure box (term_at terms i)) → row es k ≡ enclosure box (node_term terms n) → ((i : ℕ) → i < k → width_at ws i ≡ width box bits (term_at terms i)) →
    node_width bits es ws k n ≡ width box bits (node_term terms n)
by-kind box bits terms es ws k (constant_node q) o f own g = ap interval_width own
by-kind box bits terms es ws k (variable_node axis) o f own g = refl
by-kind box bits terms es ws k (negate_node a) o f own g = g a (ltb→lt a k (passes _ o))
by-kind box bits terms es ws k (add_node a b) o f own g =
    let e = both_true (nat_lt a k) (nat_lt b k) o in
    ap₂ width_sum (ap₂ width_sum (g a (ltb→lt a k (passes _ e.0))) (g b (ltb→lt b k (passes _ e.1)))) (ap (λ (i : Interval). rounding_width (interval_size i)) own)
by-kind box bits terms es ws k (multiply_node a b) o f own g =
    let e = both_true (nat_lt a k) (nat_lt b k) o in let i = ltb→lt a k (passes _ e.0) in let j = ltb→lt b k (passes _ e.1) in
    ap₂ width_sum (ap₂ width_sum (ap₂ width_product (ap interval_size (f a i)) (g b j)) (ap₂ width_product (ap interval_size (f b j)) (g a i))) (ap (λ (i : Interval). rounding_width (interval_size i)) own)
by-kind box bits terms es ws k (square_node a) o f own g =
    let i = ltb→lt a k (passes _ o) in
    ap₂ width_sum (ap₂ width_product (ap (λ (x : Interval). width_product two (interval_size x)) (f a i)) (g a i)) (ap (λ (i : Interval). rounding_width (interval_size i)) own)

-- the next width, where the widths before it are those of their terms
pub next_width : (box : Space) (bits : ℕ) (nodes : List Node) → IsTrue (in_order 0 nodes) → (es : List Interval) → es ≡ enclosures box nodes → (ws : List Ext) (k : ℕ) (n : Node) → slice_get nodes k ≡ Some n →
    ((i : ℕ) → i < k → width_at ws i ≡ width_at (graph_widths box bits nodes) i) → node_width bits es ws k n ≡ width_at (graph_widths box bits nodes) k
next_width box bits nodes o es filled ws k n e f =
    let h = order_at 0 nodes o k n e in
    let at-row : (i : ℕ) → i < length nodes → row es i ≡ enclosure box (term_at (graph_terms nodes) i) = λ i l. ap (λ (xs : List Interval). row xs i) filled ∙ row_of_term box nodes i l in
    by-kind box bits (graph_terms nodes) es ws k n (comes_at nodes o k n e) (λ i l. at-row i (let d = h.1 in omega arith)) (at-row k h.1 ∙ ap (enclosure box) (unfolds nodes o k n e))
    (λ i l. f i l ∙ width_of_term box bits nodes i (let d = h.1 in omega arith))
    ∙ ap (width box bits) (sym (unfolds nodes o k n e)) ∙ sym (width_of_term box bits nodes k h.1)

pub all_widths : (box : Space) (bits : ℕ) (nodes : List Node) (ws : List Ext) → length ws ≡ length nodes → ((i : ℕ) → i < length nodes → width_at ws i ≡ width_at (graph_widths box bits nodes) i) → ws ≡ graph_widths box bits nodes
all_widths box bits nodes ws l f = ext_get_or above_all ws (graph_widths box bits nodes) (l ∙ sym (length_widths box bits nodes)) (λ i h. f i (omega (arith, l)))

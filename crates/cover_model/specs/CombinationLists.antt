-- The sweep with its adjoints in lists, as a program keeps them.
use Rattle.std.specs.Prelude.{◌≡◌, ℕ, zero, suc, List, length, Option, Some, None, IsTrue, slice_get, get_or, set}
use Rattle.interval_model.specs.Interval.{Interval, interval_negated, interval_product}
use Rattle.poly_graph.specs.Term.{Node, negate_node, add_node, multiply_node, square_node, in_order}
use Rattle.cover_model.specs.NodeEnclosure.{row}
use Rattle.cover_model.specs.Combination.{joined, Expansion, next_expansion, swept}

abbrev pub Entries : Type 0
Entries = List (Option Interval)

abbrev pub entered : ℕ → Interval → Entries → Entries
entered a i xs = set xs a (Some (joined (get_or xs a None) i))

abbrev pub entries_down : List Interval → Interval → Node → Entries → Entries
entries_down cs w (negate_node a) xs = entered a (interval_negated w) xs
entries_down cs w (add_node a b) xs = entered b w (entered a w xs)
entries_down cs w (multiply_node a b) xs = entered b (interval_product w (row cs a)) (entered a (interval_product w (row cs b)) xs)
entries_down cs w (square_node a) xs = entered a (interval_product w (row cs a)) (entered a (interval_product w (row cs a)) xs)
entries_down cs w n xs = xs

abbrev pub square_entries_down : Interval → Node → Entries → Entries
square_entries_down w (square_node a) ys = entered a w ys
square_entries_down w n ys = ys

abbrev pub next_entries : List Interval → Option Interval → Option Node → Entries → Entries
next_entries cs (Some w) (Some n) xs = entries_down cs w n xs
next_entries cs _ _ xs = xs

abbrev pub next_square_entries : Option Interval → Option Node → Entries → Entries
next_square_entries (Some w) (Some n) ys = square_entries_down w n ys
next_square_entries _ _ ys = ys

abbrev pub swept_lists : List Node → List Interval → List Interval → ℕ → Entries → Entries → Expansion → Expansion
swept_lists nodes es cs zero xs ys e = e
swept_lists nodes es cs (suc k) xs ys e = swept_lists nodes es cs k (next_entries cs (get_or xs k None) (slice_get nodes k) xs) (next_square_entries (get_or xs k None) (slice_get nodes k) ys)
    (next_expansion es cs k (get_or xs k None) (get_or ys k None) (slice_get nodes k) e)

-- Lists as long as the nodes are swept as the function of their entries is.
abbrev pub ListsAreSwept : Type 0
ListsAreSwept = (nodes : List Node) → IsTrue (in_order 0 nodes) → (es cs : List Interval) (xs ys : Entries) (e : Expansion) → length xs ≡ length nodes → length ys ≡ length nodes →
    swept_lists nodes es cs (length nodes) xs ys e ≡ swept nodes es cs (length nodes) (λ k. get_or xs k None) (λ k. get_or ys k None) e

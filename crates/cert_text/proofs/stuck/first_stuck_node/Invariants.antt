use Rattle.std.proofs.Common.{ℕ, ◌≤◌, List, length, map}
use Rattle.cover_model.specs.Derivation.{Tree}
use Rattle.cert_model.specs.Due.{Standing}
use Rattle.cover_book.specs.Tree.{TreeOf}
use Rattle.cover_book.specs.Views.{node_of}
use Rattle.cert_text.proofs.Searched.{Searched}
use Rattle.cert_text.proofs.stuck.first_stuck_node.Given as goal

-- of any tree of these nodes, no state so far is stuck, and those of the nodes that wait are to come
abbrev pub invariant-loop-taken : goal.invariant-loop-taken
invariant-loop-taken l = (t : Tree) (numbers : List ℕ) (left : List Standing) → TreeOf (map node_of l.nodes) 0 t numbers left → length numbers ≤ length (map node_of l.nodes) →
    Searched (map node_of l.nodes) l.waiting.items l._taken left

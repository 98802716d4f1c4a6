use Rattle.std.proofs.Common.{ℕ, ◌≤◌, List, length, map}
use Rattle.cover_model.specs.Derivation.{Tree}
use Rattle.cert_model.specs.Due.{Standing}
use Rattle.cover_book.specs.Tree.{TreeOf}
use Rattle.cover_book.specs.Views.{node_of}
use Rattle.cert_text.proofs.Appended.{Progress}
use Rattle.cert_text.proofs.walk.append_tree.Given as goal

-- of any tree of these nodes, the lines so far were written, and those of the nodes that wait are to come
abbrev pub invariant-loop-taken : goal.invariant-loop-taken
invariant-loop-taken l = (t : Tree) (numbers : List ℕ) (left : List Standing) → TreeOf (map node_of l.nodes) 0 t numbers left → length numbers ≤ length (map node_of l.nodes) →
    Progress (map node_of l.nodes) l.fn.text.items l.text.items l.waiting.items l._taken t

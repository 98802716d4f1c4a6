-- Numbers of trees, equal for those that are the same.
use Rattle.std.specs.Prelude.{◌≡◌, ◌<◌, ◌≤◌, ℕ, List, length, nat_eq, slice_index}
use Rattle.script_roots.specs.Tree.{Tree}
use Rattle.script_roots.specs.Fresh.{same_tree}
use Rattle.root_rewriting.specs.Nodes.{tree_at}

-- of the first trees
pub record AreClasses (ts : List Tree) (cs : List ℕ) : Type 0 where
  pub within : length cs ≤ length ts
  pub below : (i : ℕ) → i < length cs → slice_index cs i ≤ i
  pub same : (i j : ℕ) → i < length cs → j < length cs → nat_eq (slice_index cs i) (slice_index cs j) ≡ same_tree (tree_at ts i) (tree_at ts j)

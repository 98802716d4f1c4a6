use Rattle.std.proofs.Common.{ℕ, ◌<◌}
use Rattle.root_rewriting.specs.Nodes.{tree_at, trees_in}
use Rattle.root_rewriting.specs.Plain.{IsPlain}
use Rattle.root_rewriting.proofs.plain.holds_fresh.Given as goal

abbrev pub invariant-loop-k : goal.invariant-loop-k
invariant-loop-k l = (i : ℕ) → i < l.k → IsPlain (tree_at (trees_in l.trees) i)

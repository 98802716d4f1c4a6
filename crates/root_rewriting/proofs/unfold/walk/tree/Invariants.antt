use Rattle.std.proofs.Common.{length}
use Rattle.root_rewriting.specs.Ahead.{reached_here}
use Rattle.root_rewriting.specs.TreeNames.{tree_here}
use Rattle.root_rewriting.specs.Nodes.{trees_in}
use Rattle.root_rewriting.specs.Walking.{Leaves}
use Rattle.root_rewriting.proofs.Reckoned.{Reckons}
use Rattle.root_rewriting.proofs.Sizes.{left}
use Rattle.root_rewriting.proofs.Stacked.{Within}
use Rattle.root_rewriting.proofs.unfold.walk.tree.Given as goal

abbrev pub invariant-turns : goal.invariant-turns
invariant-turns l =
    Within (Leaves (trees_in l.unfolded.trees) l.source.sexps.now l.source.top.now l.next) (trees_in l.initial.unfolded.trees) (trees_in l.unfolded.trees) l.source.sexps.now l.source.top.now l.stack.items
    (tree_here l.source.sexps.now l.source.top.now l.fn.at)
    × Reckons l.initial.unfolded.reached l.unfolded.reached (reached_here l.source.sexps.now l.source.top.now l.fn.at) l.source.sexps.now l.source.top.now l.next l.stack.items

abbrev pub decreases-turns : goal.decreases-turns
decreases-turns l = left l.unfolded.reached (length l.stack.items) l.next

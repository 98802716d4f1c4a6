use Rattle.root_rewriting.specs.Nodes.{trees_in}
use Rattle.root_rewriting.specs.Walk.{weight}
use Rattle.root_rewriting.proofs.Steps.{InWalk}
use Rattle.root_rewriting.proofs.walk.walk.Given as goal

abbrev pub invariant-works : goal.invariant-works
invariant-works l = InWalk l.source l.fn.found l.at l.found l.stack.items

abbrev pub decreases-works : goal.decreases-works
decreases-works l = weight (trees_in l.source.trees.now) l.stack.items

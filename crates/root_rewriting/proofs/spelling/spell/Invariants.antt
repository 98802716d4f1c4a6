use Rattle.root_rewriting.specs.Nodes.{trees_in}
use Rattle.root_rewriting.specs.Walk.{weight}
use Rattle.root_rewriting.proofs.Spelled.{InSpelling}
use Rattle.root_rewriting.proofs.spelling.spell.Given as goal

abbrev pub invariant-works : goal.invariant-works
invariant-works l = InSpelling l.spelling l.fn.writer l.at l.writer l.stack.items

abbrev pub decreases-works : goal.decreases-works
decreases-works l = weight (trees_in l.spelling.trees.now) l.stack.items

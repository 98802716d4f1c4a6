use Rattle.std.proofs.Common.{length}
use Rattle.root_rewriting.specs.Nodes.{trees_in}
use Rattle.root_rewriting.proofs.Arena.{HoldSoFar}
use Rattle.root_rewriting.proofs.unfold.trees.Trees.facts_of_all.Given as goal

abbrev pub invariant-loop-rest : goal.invariant-loop-rest
invariant-loop-rest l = HoldSoFar (trees_in l.self) (length l.self) l.parts l.all l.rest

abbrev pub decreases-loop-rest : goal.decreases-loop-rest
decreases-loop-rest l = length l.rest

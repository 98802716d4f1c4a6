use Rattle.std.proofs.Common.{length}
use Rattle.root_rewriting.specs.Nodes.{trees_in}
use Rattle.root_rewriting.proofs.Sites.{InLeftOut}
use Rattle.root_rewriting.proofs.places.first_left_out.Given as goal

abbrev pub invariant-loop-rest : goal.invariant-loop-rest
invariant-loop-rest l = InLeftOut (trees_in l.asserted.trees) l.asserted.assertions.items l.rest

abbrev pub decreases-loop-rest : goal.decreases-loop-rest
decreases-loop-rest l = length l.rest

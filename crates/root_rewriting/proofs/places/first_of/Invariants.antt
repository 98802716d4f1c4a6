use Rattle.std.proofs.Common.{length}
use Rattle.root_rewriting.proofs.Sites.{FirstOf}
use Rattle.root_rewriting.proofs.places.first_of.Given as goal

abbrev pub invariant-loop-rest : goal.invariant-loop-rest
invariant-loop-rest l = FirstOf l.places l.parts l.rest

abbrev pub decreases-loop-rest : goal.decreases-loop-rest
decreases-loop-rest l = length l.rest

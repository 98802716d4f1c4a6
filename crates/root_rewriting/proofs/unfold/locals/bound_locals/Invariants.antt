use Rattle.std.proofs.Common.{◌≡◌, ◌++◌, length}
use Rattle.root_rewriting.specs.TreeNames.{bound_locals}
use Rattle.root_rewriting.proofs.unfold.locals.bound_locals.Given as goal

abbrev pub invariant-loop-left : goal.invariant-loop-left
invariant-loop-left l = bound_locals l.parameters l.nodes ≡ l.locals ++ bound_locals l.left l.given

abbrev pub decreases-loop-left : goal.decreases-loop-left
decreases-loop-left l = length l.left

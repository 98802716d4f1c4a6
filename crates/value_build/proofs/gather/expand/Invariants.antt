use Rattle.std.proofs.Common.{◌≡◌, ◌++◌, length}
use Rattle.value_build.specs.Groups.{expanded}
use Rattle.value_build.proofs.gather.expand.Given as goal

abbrev pub invariant-loop-group : goal.invariant-loop-group
invariant-loop-group l = expanded l.groups ≡ l.factors.items ++ expanded l.left

abbrev pub decreases-loop-group : goal.decreases-loop-group
decreases-loop-group l = length l.left

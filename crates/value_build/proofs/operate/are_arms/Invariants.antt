use Rattle.std.proofs.Common.{◌≡◌, length}
use Rattle.value_build.specs.Operators.{are_arms}
use Rattle.value_build.proofs.operate.are_arms.Given as goal

abbrev pub invariant-loop-value : goal.invariant-loop-value
invariant-loop-value l = are_arms l.values ≡ are_arms l.left

abbrev pub decreases-loop-value : goal.decreases-loop-value
decreases-loop-value l = length l.left

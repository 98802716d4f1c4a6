use Rattle.std.proofs.Common.{◌≡◌, length}
use Rattle.value_build.specs.Operators.{are_bool}
use Rattle.value_build.proofs.operate.are_bool.Given as goal

abbrev pub invariant-loop-value : goal.invariant-loop-value
invariant-loop-value l = are_bool l.values ≡ are_bool l.left

abbrev pub decreases-loop-value : goal.decreases-loop-value
decreases-loop-value l = length l.left

use Rattle.std.proofs.Common.{◌≡◌, length}
use Rattle.value_build.specs.Arms.{hold_choice}
use Rattle.value_build.proofs.arms.hold_choice.Given as goal

abbrev pub invariant-loop-value : goal.invariant-loop-value
invariant-loop-value l = hold_choice l.values ≡ hold_choice l.left

abbrev pub decreases-loop-value : goal.decreases-loop-value
decreases-loop-value l = length l.left

use Rattle.std.proofs.Common.{length}
use Rattle.value_build.specs.Groups.{IsGathering}
use Rattle.value_build.proofs.gather.gather.Given as goal

abbrev pub invariant-loop-next : goal.invariant-loop-next
invariant-loop-next l = IsGathering l.builder l.nodes l.left l.groups.items l.places

abbrev pub decreases-loop-next : goal.decreases-loop-next
decreases-loop-next l = length l.left

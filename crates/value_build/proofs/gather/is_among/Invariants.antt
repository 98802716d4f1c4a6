use Rattle.std.proofs.Common.{◌≡◌, length}
use Rattle.value_build.specs.Groups.{is_among}
use Rattle.value_build.proofs.gather.is_among.Given as goal

abbrev pub invariant-loop-next : goal.invariant-loop-next
invariant-loop-next l = is_among l.factor l.nodes ≡ is_among l.factor l.left

abbrev pub decreases-loop-next : goal.decreases-loop-next
decreases-loop-next l = length l.left

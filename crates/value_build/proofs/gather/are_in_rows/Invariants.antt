use Rattle.std.proofs.Common.{◌≡◌, length}
use Rattle.value_build.specs.Groups.{are_in_rows}
use Rattle.value_build.proofs.gather.are_in_rows.Given as goal

abbrev pub invariant-loop-next : goal.invariant-loop-next
invariant-loop-next l = are_in_rows l.first l.others ≡ are_in_rows l.row l.left

abbrev pub decreases-loop-next : goal.decreases-loop-next
decreases-loop-next l = length l.left

use Rattle.std.proofs.Common.{◌≡◌, length}
use Rattle.sort_check.specs.Sorts.{all_of, is_real}
use Rattle.sort_check.specs.Views.{sorts_seen}
use Rattle.sort_check.proofs.operators.all_real.Given as goal

abbrev pub invariant-loop-rest : goal.invariant-loop-rest
invariant-loop-rest l = all_of is_real (sorts_seen l.sorts) ≡ all_of is_real (sorts_seen l.rest)

abbrev pub decreases-loop-rest : goal.decreases-loop-rest
decreases-loop-rest l = length l.rest

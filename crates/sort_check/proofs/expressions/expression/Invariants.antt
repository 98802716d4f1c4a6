use Rattle.script_model.specs.Reading.{Names}
use Rattle.sort_check.specs.Calls.{sort_of_expression}
use Rattle.sort_check.specs.Sorts.{Sorted}
use Rattle.sort_check.specs.Views.{Knows, around}
use Rattle.sort_check.specs.Walking.{Leaves}
use Rattle.sort_check.proofs.Falling.{left}
use Rattle.sort_check.proofs.Stacked.{Within}
use Rattle.sort_check.proofs.expressions.expression.Given as goal

abbrev pub invariant-turns : goal.invariant-turns
invariant-turns l = (names : Names Sorted) → Knows l.top names →
    Within l.sexps names (Leaves l.sexps names l.next) l.stack.items (sort_of_expression l.sexps l.fn.at (around l.fn.locals names))

abbrev pub decreases-turns : goal.decreases-turns
decreases-turns l = left l.sexps l.stack.items l.next

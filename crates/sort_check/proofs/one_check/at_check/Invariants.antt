use Rattle.std.proofs.Common.{◌≡◌, length}
use Rattle.smt_script.specs.Levels.{Levels}
use Rattle.sort_check.specs.Single.{Stacks}
use Rattle.sort_check.proofs.Lengths.{Left}
use Rattle.sort_check.proofs.one_check.at_check.Given as goal

abbrev pub invariant-loop-step : goal.invariant-loop-step
invariant-loop-step l = let s = l.fn.sexps in
    (l.force.script.sexps.now ≡ s) × (open_levels : Levels) × Stacks s l.force.script.commands.items l.force.marks.items open_levels × Left s l.fn.steps.items open_levels l.left.items

abbrev pub decreases-loop-step : goal.decreases-loop-step
decreases-loop-step l = length l.left.items

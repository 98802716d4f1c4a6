use Rattle.std.proofs.Common.{ℕ, ◌<◌, IsTrue, not}
use Rattle.ival.specs.SpaceViews.{space_of}
use Rattle.width_plan.specs.Plan.{is_far}
use Rattle.width_plan.proofs.plan.first_far.Given as goal

-- no axis so far reaches too far
abbrev pub invariant-loop-axis : goal.invariant-loop-axis
invariant-loop-axis l = (i : ℕ) → i < l.axis → IsTrue (not (is_far (space_of l.root) l.bits i))

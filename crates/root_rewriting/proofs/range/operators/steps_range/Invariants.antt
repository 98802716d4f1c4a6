use Rattle.std.proofs.Common.{◌≡◌, drop, map}
use Rattle.interval_model.specs.Interval.{everything}
use Rattle.ival.specs.Views.{interval_of}
use Rattle.script_model.specs.Meaning.{first_and_rest, from_left}
use Rattle.root_rewriting.specs.Operators.{step_range}
use Rattle.root_rewriting.proofs.range.operators.steps_range.Given as goal

-- what is left leads to the same range
abbrev pub invariant-loop-range : goal.invariant-loop-range
invariant-loop-range l = from_left (step_range l.step) (interval_of l.all) (map interval_of (drop l.range-index l.rest)) ≡ first_and_rest (step_range l.step) everything (map interval_of l.ranges)

use Rattle.std.proofs.Common.{◌≡◌, ◌-◌}
use Rattle.std.specs.Prelude.{map}
use Rattle.smt_sexp.specs.Arena.{rest_of, listed, places_of}
use Rattle.smt_script.specs.Commands.{steps_of, steps_from}
use Rattle.smt_script.specs.Run.{before_of, with_front}
use Rattle.smt_script.specs.Views.{step_of}
use Rattle.smt_script.proofs.reading.commands.Given as goal

abbrev pub invariant-loop-steps : goal.invariant-loop-steps
invariant-loop-steps l =
    steps_of (listed (rest_of l.sexps 0)) ≡ with_front (map (step_of l.sexps) l.steps.items) (steps_from (before_of l.before) (listed (rest_of l.sexps l.at)))

abbrev pub decreases-loop-steps : goal.decreases-loop-steps
decreases-loop-steps l = places_of l.sexps - l.at

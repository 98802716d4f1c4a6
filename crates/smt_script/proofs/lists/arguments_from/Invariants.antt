use Rattle.std.proofs.Common.{◌≡◌, ◌-◌}
use Rattle.smt_sexp.specs.Arena.{rest_of, places_of}
use Rattle.smt_script.specs.Commands.{arguments}
use Rattle.smt_script.proofs.Sequences.{behind}
use Rattle.smt_script.proofs.lists.arguments_from.Given as goal

abbrev pub invariant-loop-form : goal.invariant-loop-form
invariant-loop-form l = arguments (rest_of l.sexps l.start) ≡ behind l.some (arguments (rest_of l.sexps l.at))

abbrev pub decreases-loop-form : goal.decreases-loop-form
decreases-loop-form l = places_of l.sexps - l.at

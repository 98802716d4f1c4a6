use Rattle.std.proofs.Common.{◌≡◌, ◌-◌}
use Rattle.std.specs.Prelude.{map}
use Rattle.smt_sexp.specs.Arena.{rest_of, places_of}
use Rattle.smt_script.specs.Commands.{parameters}
use Rattle.smt_script.specs.Views.{parameter_of}
use Rattle.smt_script.proofs.Sequences.{after_these}
use Rattle.smt_script.proofs.lists.parameters_from.Given as goal

abbrev pub invariant-loop-after : goal.invariant-loop-after
invariant-loop-after l = parameters (rest_of l.sexps l.start) ≡ after_these (map parameter_of l.known.items) l.others (parameters (rest_of l.sexps l.at))

abbrev pub decreases-loop-after : goal.decreases-loop-after
decreases-loop-after l = places_of l.sexps - l.at

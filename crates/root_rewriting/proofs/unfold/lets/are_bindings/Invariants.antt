use Rattle.std.proofs.Common.{◌≡◌, ◌-◌}
use Rattle.std.specs.Prelude.{is_some}
use Rattle.script_model.specs.Reading.{bound_names}
use Rattle.smt_sexp.specs.Arena.{rest_of, places_of}
use Rattle.root_rewriting.proofs.unfold.lets.are_bindings.Given as goal

abbrev pub invariant-loop-after : goal.invariant-loop-after
invariant-loop-after l = is_some (bound_names (rest_of l.sexps l.start)) ≡ is_some (bound_names (rest_of l.sexps l.at))

abbrev pub decreases-loop-after : goal.decreases-loop-after
decreases-loop-after l = places_of l.sexps - l.at

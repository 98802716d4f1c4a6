use Rattle.std.proofs.Common.{◌≡◌, map, length}
use Rattle.smt_sexp.specs.declared.sexps.Sexps.{Sexps}
use Rattle.smt_script.specs.Levels.{checks_of}
use Rattle.smt_script.specs.Views.{step_of}
use Rattle.sort_check.specs.Single.{second_place}
use Rattle.sort_check.proofs.Checks.{places_in, second_left}
use Rattle.sort_check.proofs.one_check.second_check.Given as goal

abbrev pub invariant-loop-rest : goal.invariant-loop-rest
invariant-loop-rest l = (s : Sexps) → second_place (checks_of (map (step_of s) l.steps)) ≡ second_left l.checked (places_in (map (step_of s) l.rest))

abbrev pub decreases-loop-rest : goal.decreases-loop-rest
decreases-loop-rest l = length l.rest

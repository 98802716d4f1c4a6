use Rattle.std.proofs.Common.{◌≡◌, map, length}
use Rattle.script_forms.specs.Walk.{claim_places, last_place, nowhere}
use Rattle.smt_script.specs.Views.{command_of}
use Rattle.smt_sexp.specs.Views.{place_of}
use Rattle.smt_sexp.specs.declared.sexps.Sexps as arena
use Rattle.problem_build.proofs.script.last_claim.Given as goal

abbrev pub invariant-loop-rest : goal.invariant-loop-rest
invariant-loop-rest l = (s : arena.Sexps) → last_place nowhere (claim_places (map (command_of s) l.commands)) ≡ last_place (place_of l.last) (claim_places (map (command_of s) l.rest))

abbrev pub decreases-loop-rest : goal.decreases-loop-rest
decreases-loop-rest l = length l.rest

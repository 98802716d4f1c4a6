use Rattle.std.proofs.Common.{◌≡◌, ◌-◌, ◌∷◌, [], ◌++◌, map}
use Rattle.smt_sexp.specs.Arena.{rest_of, places_of}
use Rattle.smt_sexp.specs.Views.{place_of}
use Rattle.smt_script.specs.Commands.{assumptions}
use Rattle.smt_script.specs.Levels.{opens}
use Rattle.smt_script.specs.Views.{step_of}
use Rattle.smt_script.proofs.levels.add_assumed.Given as goal

abbrev pub invariant-loop-after : goal.invariant-loop-after
invariant-loop-after l =
    map (step_of l.sexps) l.steps.items ++ assumptions (place_of l.place) (rest_of l.sexps l.at) ≡
    map (step_of l.sexps) l.fn.steps.items ++ ((opens (place_of l.place) 1 ∷ []) ++ assumptions (place_of l.place) (rest_of l.sexps l.first))

abbrev pub decreases-loop-after : goal.decreases-loop-after
decreases-loop-after l = places_of l.sexps - l.at

use Rattle.std.proofs.Common.{◌≡◌, ◌-◌, ◌++◌}
use Rattle.script_model.specs.Reading.{Names, meanings}
use Rattle.smt_sexp.specs.Arena.{rest_of, places_of}
use Rattle.sort_check.specs.Sorts.{Sorted, sorting}
use Rattle.sort_check.specs.Views.{Knows, sorts_seen}
use Rattle.sort_check.proofs.expressions.terms.Given as goal

abbrev pub invariant-loop-after : goal.invariant-loop-after
invariant-loop-after l = (names : Names Sorted) → Knows l.top names →
    meanings sorting names (rest_of l.sexps l.start) ≡ sorts_seen l.sorts.items ++ meanings sorting names (rest_of l.sexps l.at)

abbrev pub decreases-loop-after : goal.decreases-loop-after
decreases-loop-after l = places_of l.sexps - l.at

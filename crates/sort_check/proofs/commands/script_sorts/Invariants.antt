use Rattle.std.proofs.Common.{◌≡◌, ◌≤◌, map, length}
use Rattle.script_model.specs.Reading.{Names}
use Rattle.smt_script.specs.Views.{command_of, commands_in}
use Rattle.sort_check.specs.Sorts.{Sorted, sort_fault, sort_fault_from}
use Rattle.sort_check.specs.Views.{Knows}
use Rattle.sort_check.proofs.commands.script_sorts.Given as goal

abbrev pub invariant-loop-rest : goal.invariant-loop-rest
invariant-loop-rest l = (names : Names Sorted) × Knows l.top names × (l.count ≤ 1024) ×
    (sort_fault (commands_in l.script) ≡ sort_fault_from l.count names (map (command_of l.script.sexps.now) l.rest))

abbrev pub decreases-loop-rest : goal.decreases-loop-rest
decreases-loop-rest l = length l.rest

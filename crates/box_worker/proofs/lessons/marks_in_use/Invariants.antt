use Rattle.std.proofs.Common.{◌≡◌, length}
use Rattle.box_worker.proofs.lessons.marks_in_use.Given as goal

abbrev pub invariant-loop-step : goal.invariant-loop-step
invariant-loop-step l = length l.marks ≡ length l.problem.atoms

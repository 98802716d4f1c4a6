use Rattle.box_worker.specs.Attempts.{StaysOpen}
use Rattle.box_worker.proofs.lessons.repeat_steps.Given as goal

abbrev pub invariant-loop-step : goal.invariant-loop-step
invariant-loop-step l = StaysOpen l.fn.patch l.patch

use Rattle.std.proofs.Common.{◌≡◌, map, take}
use Rattle.cover_data.specs.Views.{step_line}
use Rattle.box_worker.proofs.learn.copies_of_steps.Given as goal

abbrev pub invariant-loop-step : goal.invariant-loop-step
invariant-loop-step l = map step_line l.all.items ≡ map step_line (take l.step-index l.steps)

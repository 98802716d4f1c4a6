use Rattle.solve_core.specs.Reaches.{stays}
use Rattle.solve_core.proofs.run.work_until.Goals as goal

pub returns-then-is_time-clause-reached : goal.returns-then-is_time-clause-reached
returns-then-is_time-clause-reached g c = stays

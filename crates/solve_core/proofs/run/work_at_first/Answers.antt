use Rattle.std.proofs.Common.{◌∙◌}
use Rattle.solve_core.proofs.Reached.{reaches_same, reaches_through}
use Rattle.solve_core.proofs.run.work_at_first.Goals as goal

pub finish_work-requires-clause-problem : goal.finish_work-requires-clause-problem
finish_work-requires-clause-problem g c = (reaches_same c.start_work.ensures.reached).0 ∙ c.requires.problem

pub returns-in_err-finish_work-clause-reached : goal.returns-in_err-finish_work-clause-reached
returns-in_err-finish_work-clause-reached g c = reaches_through c.start_work.ensures.reached c.finish_work.ensures.reached

pub returns-clause-reached : goal.returns-clause-reached
returns-clause-reached g c = reaches_through c.start_work.ensures.reached c.finish_work.ensures.reached

use Rattle.solve_core.proofs.Reached.{same_reaches}
use Rattle.solve_core.proofs.Visits.{find_reaches}
use Rattle.solve_core.proofs.search.Search.keep_point.Goals as goal

pub returns-in-Ok-clause-reached : goal.returns-in-Ok-clause-reached
returns-in-Ok-clause-reached c = find_reaches c.args.self.now c.args.node c.args.point c.requires c.found.new.self c.in-Ok.ensures

pub returns-in-Err-clause-reached : goal.returns-in-Err-clause-reached
returns-in-Err-clause-reached c = same_reaches c.in-Err.ensures.1

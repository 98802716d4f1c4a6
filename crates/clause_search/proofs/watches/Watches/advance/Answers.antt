use Rattle.clause_search.proofs.Queue.{sees}
use Rattle.clause_search.proofs.watches.Watches.advance.Goals as goal

pub returns-in-Settled-clause-sees : goal.returns-in-Settled-clause-sees
returns-in-Settled-clause-sees c = sees c.args.cnf.now c.args.values.now c.visit_all.new.self c.visit_all.result c.visit_all.ensures.watching c.visit_all.ensures.says

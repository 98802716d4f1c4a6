use Rattle.check_run.proofs.GoalVerdicts.{goal_ends}
use Rattle.check_run.proofs.run.check_read.Goals as goal

pub returns-in-Ok-clause-ends : goal.returns-in-Ok-clause-ends
returns-in-Ok-clause-ends g c =
    goal_ends c.args.read.now.session c.args.read.now.goal c.in-Some.goal c.in-Ok.problem c.in-Some.is c.requires.goal c.in-Ok.ensures c.args.bound c.args.name.now
    (g.D.Desk.sight c.args.desk.now) (g.D.Desk.sight c.check_goal.new.desk) c.check_goal.result c.check_goal.ensures.ends

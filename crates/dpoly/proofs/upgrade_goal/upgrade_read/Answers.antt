use Rattle.dpoly.proofs.GoalUpgrading.{goal_upgrade_ends}
use Rattle.dpoly.proofs.upgrade_goal.upgrade_read.Goals as goal

pub returns-in-Ok-clause-ends : goal.returns-in-Ok-clause-ends
returns-in-Ok-clause-ends g c =
    goal_upgrade_ends c.args.read.now.session c.args.read.now.goal c.in-Some.goal c.in-Ok.problem c.in-Some.is c.requires.goal c.in-Ok.ensures c.args.bound c.args.cert.now c.args.out.now
    (g.D.Desk.sight c.args.desk.now) (g.D.Desk.sight c.upgrade_goal.new.desk) c.upgrade_goal.result c.upgrade_goal.ensures.ends

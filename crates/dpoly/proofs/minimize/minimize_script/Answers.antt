use Rattle.command_line.specs.Seen.{seen_minimize}
use Rattle.poly_graph.specs.ProblemViews.{problem_of}
use Rattle.check_run.proofs.Bounds.{goal_within, minimize_ends, no_goal_ends}
use Rattle.dpoly.proofs.Minimizing.{least_ends}
use Rattle.dpoly.proofs.minimize.minimize_script.Goals as goal

pub minimize_problem-requires-clause-goal : goal.minimize_problem-requires-clause-goal
minimize_problem-requires-clause-goal g c κs within = goal_within c.args.goal c.in-Some.goal c.args.problem.now c.in-Some.is c.requires.goal

pub returns-in_default-clause-ends : goal.returns-in_default-clause-ends
returns-in_default-clause-ends g c =
    no_goal_ends (problem_of c.args.problem.now) c.args.goal (seen_minimize c.args.asked.now) (g.D.Desk.sight c.args.desk.now) (g.D.Desk.sight c.end_no_goal.new.desk) c.end_no_goal.result c.in_default.is c.end_no_goal.ensures.ends

pub returns-in-Ok-clause-ends : goal.returns-in-Ok-clause-ends
returns-in-Ok-clause-ends g c =
    let told = c.in-Ok.told in
    minimize_ends (problem_of c.args.problem.now) c.args.goal (seen_minimize c.args.asked.now) (g.D.Desk.sight c.args.desk.now) (g.D.Desk.sight c.finish.new.desk) c.finish.result c.in-Some.goal c.in-Some.is
    (least_ends (problem_of c.args.problem.now) c.in-Some.goal (seen_minimize c.args.asked.now) told _ _ (g.D.Desk.sight c.args.desk.now) (g.D.Desk.sight c.finish.new.desk) c.finish.result c.deref.ensures.value c.deref-in-Ok.ensures.value c.finish.ensures.ends
    c.in-Ok.ensures)

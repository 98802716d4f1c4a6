use Rattle.poly_graph.specs.ProblemViews.{problem_of}
use Rattle.check_run.specs.declared.status.Status.TheVariants.{Answered}
use Rattle.check_run.proofs.GoalVerdicts.{goal_concluded, goal_confirmed}
use Rattle.check_run.proofs.goal.confirm.Goals as goal

pub returns-in-Ok-clause-ends : goal.returns-in-Ok-clause-ends
returns-in-Ok-clause-ends g c a v h = goal_concluded (problem_of a.problem) a.goal v Answered c.in-Ok.text.items c.deref.result.now _ _ _ (goal_confirmed c.args.verdict c.in-Ok.text.items c.in-Ok.ensures a v h) c.deref.ensures.value c.say.ensures.ends

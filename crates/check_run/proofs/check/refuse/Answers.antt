use Rattle.poly_graph.specs.ProblemViews.{problem_of}
use Rattle.check_run.specs.declared.status.Status.TheVariants.{CertRefused}
use Rattle.check_run.proofs.GoalVerdicts.{goal_concluded, goal_fault_shown}
use Rattle.check_run.proofs.Verdicts.{shown_fault, concluded, refusal_of}
use Rattle.check_run.proofs.check.refuse.Goals as goal

pub returns-in-Ok-clause-ends : goal.returns-in-Ok-clause-ends
returns-in-Ok-clause-ends g c v h =
    concluded v CertRefused c.in-Ok.text.items c.deref.result.now _ _ _ (shown_fault c.args.fault c.in-Ok.text.items c.in-Ok.ensures v h) c.deref.ensures.value c.say.ensures.ends

pub returns-in-Ok-clause-refuses : goal.returns-in-Ok-clause-refuses
returns-in-Ok-clause-refuses g c = refusal_of c.args.fault c.in-Ok.text.items c.deref.result.now _ _ _ c.in-Ok.ensures c.deref.ensures.value c.say.ensures.ends

pub returns-in-Ok-clause-goal : goal.returns-in-Ok-clause-goal
returns-in-Ok-clause-goal g c a v h =
    goal_concluded (problem_of a.problem) a.goal v CertRefused c.in-Ok.text.items c.deref.result.now _ _ _ (goal_fault_shown c.args.fault c.in-Ok.text.items c.in-Ok.ensures (problem_of a.problem) a.goal v h) c.deref.ensures.value c.say.ensures.ends

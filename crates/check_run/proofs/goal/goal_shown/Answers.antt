use Rattle.std.proofs.lemmas.Result.{IfOk-weaker}
use Rattle.check_run.proofs.GoalVerdicts.{shown_check, shown_least}
use Rattle.check_run.proofs.goal.goal_shown.Goals as goal

pub returns-in-Check : goal.returns-in-Check
returns-in-Check c = IfOk-weaker c.shown.result _ _ (λ text e. shown_check text.items c.in-Check.verdict c.args.verdict c.in-Check.is e) c.shown.ensures

pub returns-in-Least : goal.returns-in-Least
returns-in-Least c = IfOk-weaker c.confirmed_least.result _ _ (λ text e. shown_least text.items c.in-Least.least c.args.verdict c.in-Least.is e) c.confirmed_least.ensures

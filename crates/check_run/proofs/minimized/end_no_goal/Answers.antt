use Rattle.std.proofs.Common.{refl}
use Rattle.check_run.specs.declared.status.Status.TheVariants.{ScriptRefused}
use Rattle.check_run.specs.Course.{says, on_course}
use Rattle.check_run.specs.Minimized.{no_goal_text}
use Rattle.check_run.proofs.minimized.end_no_goal.Goals as goal

pub returns-clause-ends : goal.returns-clause-ends
returns-clause-ends g c = on_course (says ScriptRefused no_goal_text) refl c.say.ensures.ends

use Rattle.plan_law.proofs.Course.{leaves_none_stuck, never_answers_width}
use Rattle.plan_law.proofs.plans_leave_none_stuck.Goals as goal

pub returns-clause-stuck : goal.returns-clause-stuck
returns-clause-stuck c = leaves_none_stuck

pub returns-clause-answer : goal.returns-clause-answer
returns-clause-answer c = never_answers_width

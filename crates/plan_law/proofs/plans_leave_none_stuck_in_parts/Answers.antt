use Rattle.plan_law.proofs.Parts.{part_leaves_none_stuck, part_never_answers_width}
use Rattle.plan_law.proofs.plans_leave_none_stuck_in_parts.Goals as goal

pub returns-clause-stuck : goal.returns-clause-stuck
returns-clause-stuck c = part_leaves_none_stuck

pub returns-clause-answer : goal.returns-clause-answer
returns-clause-answer c = part_never_answers_width

use Rattle.std.proofs.Common.{sym, subst}
use Rattle.cert_resume.specs.Going.{JoinsOwn}
use Rattle.cert_resume.specs.declared.answer.Own.{Own}
use Rattle.cert_resume.proofs.Owns.{open_joins, second_open_joins, stuck_joins}
use Rattle.cert_resume.proofs.going.joined.Goals as goal

pub returns-in-Open : goal.returns-in-Open
returns-in-Open c = subst (λ (z : Own). JoinsOwn z c.args.second z) (sym c.in-Open.is) (open_joins c.args.second)

pub returns-in-Open-second : goal.returns-in-Open-second
returns-in-Open-second c = subst (λ (z : Own). JoinsOwn c.args.first z z) (sym c.in-Open-second.is) (second_open_joins c.args.first)

pub returns-in_default : goal.returns-in_default
returns-in_default c = subst (λ (z : Own). JoinsOwn z c.args.second z) (sym c.in-Stuck.is) (stuck_joins c.in-Stuck.field-0 c.in-Stuck.field-1 c.args.second c.in_default.not-Open)

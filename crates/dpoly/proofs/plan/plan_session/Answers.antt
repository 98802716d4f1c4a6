use Rattle.dpoly.proofs.Planning.{planned_ends}
use Rattle.dpoly.proofs.plan.plan_session.Goals as goal

pub returns-in-Ok-clause-ends : goal.returns-in-Ok-clause-ends
returns-in-Ok-clause-ends g c = planned_ends _ c.args.delta_bits c.args.margin_bits c.in-Ok.text.items _ _ _ _ c.in-Ok.ensures c.deref.ensures.value c.say.ensures.ends

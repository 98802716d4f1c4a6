use Rattle.std.proofs.Common.{IsTrue, not, subst}
use Rattle.interval_model.specs.Space.{Space}
use Rattle.width_plan.specs.Plan.{is_far}
use Rattle.width_plan.proofs.plan.on_axes.Goals as goal

pub returns-in-None : goal.returns-in-None
returns-in-None c = (c.requires.least, λ i. subst (λ (s : Space). IsTrue (not (is_far s c.args.bits i))) c.requires.root (c.in-None.ensures i))

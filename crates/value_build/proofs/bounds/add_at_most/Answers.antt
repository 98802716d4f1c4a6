use Rattle.value_build.proofs.bounds.add_at_most.Goals as goal

pub returns-in-Axis-Known : goal.returns-in-Axis-Known
returns-in-Axis-Known c = rw (c.in-Axis-Known.is-0, c.in-Axis-Known.is-1) c.add_one.ensures

pub returns-in-Known-Axis : goal.returns-in-Known-Axis
returns-in-Known-Axis c = rw (c.in-Known-Axis.is-0, c.in-Known-Axis.is-1) c.add_one-in-Known-Axis.ensures

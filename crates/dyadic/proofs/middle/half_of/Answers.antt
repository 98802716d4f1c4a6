use Rattle.std.proofs.Common.{lit<, ◌+ℤ◌}
use Rattle.dyadic.specs.Views.{normal_units}
use Rattle.dyadic.proofs.Results.{rounded_steps}
use Rattle.dyadic.proofs.middle.half_of.Goals as goal

pub returns : goal.returns
returns c = rounded_steps (normal_units c.args.a +ℤ normal_units c.args.b) 2 _ _ c.round_steps.result (lit< tt) c.half_sum.ensures.within c.round_steps.ensures

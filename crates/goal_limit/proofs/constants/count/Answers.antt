use Rattle.std.proofs.Common.{◌-◌}
use Rattle.dyadic.specs.Mantissa.{mantissa}
use Rattle.goal_limit.proofs.Counts.{count_lowered, count_raised, mantissa_size}
use Rattle.goal_limit.proofs.constants.count.Goals as goal

pub returns-then-limit-step : goal.returns-then-limit-step
returns-then-limit-step c = count_lowered (mantissa c.args.limit.high c.args.limit.low) c.unsigned_abs-size.result c.args.limit.shift (120 - c.args.bits) c.lowered.result
    (mantissa_size _ _ _ c.mantissa.type_inv c.unsigned_abs-size.ensures.value c.mantissa.ensures) c.if-limit-step.true c.lowered.ensures

pub returns-else-limit-step : goal.returns-else-limit-step
returns-else-limit-step c = count_raised (mantissa c.args.limit.high c.args.limit.low) c.unsigned_abs-size.result c.args.limit.shift (120 - c.args.bits) c.raised.result
    (mantissa_size _ _ _ c.mantissa.type_inv c.unsigned_abs-size.ensures.value c.mantissa.ensures) c.if-limit-step.false c.raised.ensures

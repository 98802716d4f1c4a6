use Rattle.std.proofs.Common.{◌∙◌, ap}
use Rattle.dyadic.specs.Fraction.{whole}
use Rattle.dyadic.specs.Views.{dyadic_of, fraction_of_frac}
use Rattle.dyadic.proofs.Reduced.{passed}
use Rattle.goal_limit.proofs.Counts.{offset_is}
use Rattle.goal_limit.proofs.constants.offset.Goals as goal

pub returns-in-Some : goal.returns-in-Some
returns-in-Some c = offset_is c.args.bits c.in-Some.n (dyadic_of c.args.limit) c.is_negative.result (fraction_of_frac c.whole.result) c.is_negative.ensures c.in-Some.ensures
    (c.whole.ensures ∙ ap whole (passed c.with_sign.result c.with_sign.type_inv ∙ c.with_sign.ensures))

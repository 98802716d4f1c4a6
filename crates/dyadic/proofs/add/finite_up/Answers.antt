use Rattle.std.proofs.Common.{◌∙◌, ap, neg_ℤ}
use Rattle.dyadic.specs.Views.{dyadic_of}
use Rattle.dyadic.proofs.Results.{sum_up}
use Rattle.dyadic.proofs.add.finite_up.Goals as goal

pub returns : goal.returns
returns c = sum_up (dyadic_of c.args.a) (dyadic_of c.args.b) _ _ _ _ c.round_steps.result _ (c.neg.ensures ∙ ap neg_ℤ c.normal.ensures) (c.neg-2.ensures ∙ ap neg_ℤ c.normal-2.ensures) c.sum_of-sum.ensures.within c.round_steps.ensures c.neg-3.ensures

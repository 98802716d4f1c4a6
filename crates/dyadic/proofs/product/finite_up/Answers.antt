use Rattle.std.proofs.Common.{◌∙◌, ap, neg_ℤ}
use Rattle.dyadic.specs.Views.{dyadic_of}
use Rattle.dyadic.proofs.Results.{product_up}
use Rattle.dyadic.proofs.product.finite_up.Goals as goal

pub returns : goal.returns
returns c = product_up (dyadic_of c.args.a) (dyadic_of c.args.b) _ _ _ _ c.round_steps.result _ (c.neg.ensures ∙ ap neg_ℤ c.normal.ensures) c.normal-2.ensures c.product_of-product.ensures.within c.round_steps.ensures c.neg-2.ensures

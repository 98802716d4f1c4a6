use Rattle.dyadic.specs.Views.{dyadic_of}
use Rattle.dyadic.proofs.Results.{sum_down}
use Rattle.dyadic.proofs.add.finite_down.Goals as goal

pub returns : goal.returns
returns c = sum_down (dyadic_of c.args.a) (dyadic_of c.args.b) _ _ _ _ c.round_steps.result c.normal.ensures c.normal-2.ensures c.sum_of-sum.ensures.within c.round_steps.ensures

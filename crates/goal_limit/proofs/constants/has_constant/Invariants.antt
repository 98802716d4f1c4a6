use Rattle.std.proofs.Common.{◌≡◌, drop}
use Rattle.dyadic.specs.Views.{fraction_of_frac}
use Rattle.cert_model.specs.Limited.{has_constant}
use Rattle.goal_limit.proofs.constants.has_constant.Given as goal

abbrev pub invariant-loop-k : goal.invariant-loop-k
invariant-loop-k l = has_constant (drop l.k l.graph) (fraction_of_frac l.value) ≡ has_constant l.graph (fraction_of_frac l.value)

use Rattle.interval_model.proofs.Isotone.{sum_isotone, negated_isotone, product_isotone, square_isotone}
use Rattle.interval_model.proofs.operations_are_isotone.Goals as goal

pub returns-clause-sum : goal.returns-clause-sum
returns-clause-sum c = sum_isotone

pub returns-clause-negation : goal.returns-clause-negation
returns-clause-negation c = negated_isotone

pub returns-clause-product : goal.returns-clause-product
returns-clause-product c = product_isotone

pub returns-clause-square : goal.returns-clause-square
returns-clause-square c = square_isotone

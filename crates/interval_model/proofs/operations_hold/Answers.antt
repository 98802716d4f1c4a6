use Rattle.interval_model.proofs.Holds.{sum_holds, negated_holds, product_holds, square_holds}
use Rattle.interval_model.proofs.operations_hold.Goals as goal

pub returns-clause-sum : goal.returns-clause-sum
returns-clause-sum c = sum_holds

pub returns-clause-negation : goal.returns-clause-negation
returns-clause-negation c = negated_holds

pub returns-clause-product : goal.returns-clause-product
returns-clause-product c = product_holds

pub returns-clause-square : goal.returns-clause-square
returns-clause-square c = square_holds

use Rattle.interval_model.proofs.Inverses.{inverse_sum_holds, inverse_product_holds}
use Rattle.interval_model.proofs.InversesSquares.{inverse_square_holds}
use Rattle.interval_model.proofs.inverses_hold.Goals as goal

pub returns-clause-sum : goal.returns-clause-sum
returns-clause-sum c = inverse_sum_holds

pub returns-clause-product : goal.returns-clause-product
returns-clause-product c = inverse_product_holds

pub returns-clause-square : goal.returns-clause-square
returns-clause-square c = inverse_square_holds

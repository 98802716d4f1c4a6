use Rattle.interval_model.proofs.IsotoneInverses.{inverse_sum_isotone, inverse_product_isotone}
use Rattle.interval_model.proofs.IsotoneRoots.{inverse_square_isotone}
use Rattle.interval_model.proofs.inverses_are_isotone.Goals as goal

pub returns-clause-sum : goal.returns-clause-sum
returns-clause-sum c = inverse_sum_isotone

pub returns-clause-product : goal.returns-clause-product
returns-clause-product c = inverse_product_isotone

pub returns-clause-square : goal.returns-clause-square
returns-clause-square c = inverse_square_isotone

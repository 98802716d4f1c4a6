use Rattle.std.proofs.Common.{ap₂}
use Rattle.interval_model.specs.Interval.{between, interval_square}
use Rattle.dyadic.specs.Views.{ext_of}
use Rattle.interval_model.proofs.Isotone.{square_proper}
use Rattle.ival.proofs.Proper.{proper_of, ends_from}
use Rattle.ival.proofs.product.square_of_ends.Goals as goal

pub invariant_of-result : goal.invariant_of-result
invariant_of-result c = record {
  proper = let l = ext_of c.args.a.low in let h = ext_of c.args.a.high in
      ends_from (ext_of c.least_square.result) (ext_of c.greatest_square.result) (interval_square (between l h)) (ap₂ between c.least_square.ensures c.greatest_square.ensures)
      (square_proper (between l h) (proper_of l h c.args.a.proper));
}

use Rattle.std.proofs.Common.{ap₂}
use Rattle.interval_model.specs.Interval.{between, interval_product}
use Rattle.dyadic.specs.Views.{ext_of}
use Rattle.interval_model.proofs.Isotone.{product_proper}
use Rattle.ival.proofs.Proper.{proper_of, ends_from}
use Rattle.ival.proofs.product.product_of_ends.Goals as goal

pub invariant_of-result : goal.invariant_of-result
invariant_of-result c = record {
  proper = let l = ext_of c.args.a.low in let h = ext_of c.args.a.high in let m = ext_of c.args.b.low in let k = ext_of c.args.b.high in
      ends_from (ext_of c.least_product.result) (ext_of c.greatest_product.result) (interval_product (between l h) (between m k)) (ap₂ between c.least_product.ensures c.greatest_product.ensures)
      (product_proper (between l h) (between m k) (proper_of l h c.args.a.proper) (proper_of m k c.args.b.proper));
}

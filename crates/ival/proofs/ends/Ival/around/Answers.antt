use Rattle.std.proofs.Common.{ap₂}
use Rattle.dyadic.specs.Rounding.{down, up}
use Rattle.interval_model.specs.Interval.{between}
use Rattle.dyadic.specs.Views.{ext_of, fraction_of_frac}
use Rattle.dyadic.proofs.SizePositive.{size_positive}
use Rattle.interval_model.proofs.Holds.{rounded_fraction_holds}
use Rattle.interval_model.proofs.Isotone.{proper_from}
use Rattle.ival.proofs.Proper.{ends_from}
use Rattle.ival.proofs.ends.Ival.around.Goals as goal

pub invariant_of-result : goal.invariant_of-result
invariant_of-result c = record {
  proper = let f = c.args.fraction in let q = fraction_of_frac f in let p = size_positive f.d f.lowest.positive in
      ends_from (ext_of c.down_frac.result) (ext_of c.up_frac.result) (between (down q) (up q)) (ap₂ between c.down_frac.ensures c.up_frac.ensures)
      (proper_from (between (down q) (up q)) q p (rounded_fraction_holds q p));
}

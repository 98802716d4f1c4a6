use Rattle.std.proofs.Common.{ap₂}
use Rattle.interval_model.specs.Interval.{between, of_four}
use Rattle.dyadic.specs.End.{end_quotient}
use Rattle.dyadic.specs.Views.{ext_of}
use Rattle.ival.proofs.Proper.{proper_of, ends_from}
use Rattle.ival.proofs.Quotients.{quotients_proper}
use Rattle.ival.proofs.inverse.quotient_of_ends.Goals as goal

pub invariant_of-result : goal.invariant_of-result
invariant_of-result c = record {
  proper = let l = ext_of c.args.a.low in let h = ext_of c.args.a.high in let a = ext_of c.args.divisor.low in let b = ext_of c.args.divisor.high in
      ends_from (ext_of c.least_quotient.result) (ext_of c.greatest_quotient.result) (of_four end_quotient (between l h) (between a b)) (ap₂ between c.least_quotient.ensures c.greatest_quotient.ensures)
      (quotients_proper l h a b (proper_of l h c.args.a.proper) (proper_of a b c.args.divisor.proper) c.requires);
}

use Rattle.std.proofs.Common.{ap₂}
use Rattle.interval_model.specs.Interval.{between}
use Rattle.dyadic.specs.End.{negated_ext}
use Rattle.dyadic.specs.Views.{ext_of}
use Rattle.interval_model.proofs.Isotone.{negated_proper}
use Rattle.ival.proofs.Proper.{proper_of, ends_from}
use Rattle.ival.proofs.interval.negated_ends.Goals as goal

pub invariant_of-result : goal.invariant_of-result
invariant_of-result c = record {
  proper = let l = ext_of c.args.a.low in let h = ext_of c.args.a.high in
      ends_from (ext_of c.neg.result) (ext_of c.neg-2.result) (between (negated_ext h) (negated_ext l)) (ap₂ between c.neg.ensures c.neg-2.ensures)
      (negated_proper (between l h) (proper_of l h c.args.a.proper));
}

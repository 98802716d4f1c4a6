use Rattle.std.proofs.Common.{ap₂}
use Rattle.interval_model.specs.Interval.{between}
use Rattle.dyadic.specs.End.{lesser_ext, greater_ext}
use Rattle.dyadic.specs.Views.{ext_of}
use Rattle.ival.proofs.Proper.{proper_of, ends_from, hull_proper}
use Rattle.ival.proofs.interval.hull_of_ends.Goals as goal

pub invariant_of-result : goal.invariant_of-result
invariant_of-result c = record {
  proper = let l = ext_of c.args.a.low in let h = ext_of c.args.a.high in let m = ext_of c.args.b.low in let k = ext_of c.args.b.high in
      ends_from (ext_of c.lesser.result) (ext_of c.greater.result) (between (lesser_ext l m) (greater_ext h k)) (ap₂ between c.lesser.ensures c.greater.ensures)
      (hull_proper l h m k (proper_of l h c.args.a.proper) (proper_of m k c.args.b.proper));
}

use Rattle.std.proofs.Common.{ap, sym, ◌∙◌}
use Rattle.interval_model.specs.Interval.{Interval, interval_product}
use Rattle.ival.specs.Views.{interval_of}
use Rattle.ival.proofs.Facts.{interval_kept, interval_proper}
use Rattle.cover_model.proofs.CombinationOnes.{one_product}
use Rattle.plain_eval.proofs.quadratic.multiple.Goals as goal

pub returns-then-is_one : goal.returns-then-is_one
returns-then-is_one c =
    let i = interval_of c.args.interval in
    sym (ap (λ (j : Interval). interval_product j i) (c.is_one.ensures c.if-is_one.true) ∙ one_product i (interval_kept c.args.interval) (interval_proper c.args.interval))

use Rattle.std.proofs.Common.{ap, sym, ◌∙◌}
use Rattle.interval_model.specs.Interval.{interval_sum}
use Rattle.ival.specs.Views.{interval_of}
use Rattle.ival.proofs.Facts.{interval_kept}
use Rattle.cover_model.proofs.CombinationNoughts.{sum_nought}
use Rattle.plain_eval.proofs.sweep.add_product.Goals as goal

pub returns-then-is_multiple : goal.returns-then-is_multiple
returns-then-is_multiple c =
    let rest = interval_of c.args.rest in sym (ap (interval_sum rest) (c.is_multiple.ensures c.if-is_multiple.true) ∙ sum_nought rest (interval_kept c.args.rest))

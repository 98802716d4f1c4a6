use Rattle.std.proofs.Common.{sym, ◌∙◌}
use Rattle.ival.specs.Views.{interval_of}
use Rattle.combine.specs.Visits.{difference_at}
use Rattle.cover_model.proofs.CombinationNoughts.{exact_first, exact_second}
use Rattle.combine.proofs.expand.is_exact.Goals as goal

pub returns-then-is_fixed : goal.returns-then-is_fixed
returns-then-is_fixed c h =
    let e = c.args.enclosures.now in
    exact_first (interval_of c.args.linear) (difference_at e c.args.a) (difference_at e c.args.b) (sym c.is_empty.ensures ∙ c.if-is_empty.false)
    (c.is_fixed.ensures c.if-is_fixed.true) (c.has_values.ensures h)

pub returns-then-is_fixed-2 : goal.returns-then-is_fixed-2
returns-then-is_fixed-2 c h =
    let e = c.args.enclosures.now in
    exact_second (interval_of c.args.linear) (difference_at e c.args.a) (difference_at e c.args.b) (sym c.is_empty.ensures ∙ c.if-is_empty.false)
    (c.is_fixed-2.ensures c.if-is_fixed-2.true) (c.has_values-then-is_fixed-2.ensures h)

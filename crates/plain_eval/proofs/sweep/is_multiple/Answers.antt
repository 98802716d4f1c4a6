use Rattle.std.proofs.Common.{sym, ◌∙◌}
use Rattle.cover_model.specs.Combination.{off_centre}
use Rattle.ival.specs.Views.{interval_of}
use Rattle.ival.specs.RowViews.{rows_of}
use Rattle.cover_model.proofs.CombinationNoughts.{exact_first, exact_second}
use Rattle.plain_eval.proofs.sweep.is_multiple.Goals as goal

pub returns-then-is_still : goal.returns-then-is_still
returns-then-is_still c h =
    let es = rows_of c.args.rows.now in let cs = rows_of c.args.centre_rows.now in
    exact_first (interval_of c.args.linear) (off_centre es cs c.args.a) (off_centre es cs c.args.b) (sym c.is_empty.ensures ∙ c.if-is_empty.false) (c.is_still.ensures c.if-is_still.true) (c.is_somewhere.ensures h)

pub returns-then-is_still-2 : goal.returns-then-is_still-2
returns-then-is_still-2 c h =
    let es = rows_of c.args.rows.now in let cs = rows_of c.args.centre_rows.now in
    exact_second (interval_of c.args.linear) (off_centre es cs c.args.a) (off_centre es cs c.args.b) (sym c.is_empty.ensures ∙ c.if-is_empty.false) (c.is_still-2.ensures c.if-is_still-2.true)
    (c.is_somewhere-then-is_still-2.ensures h)

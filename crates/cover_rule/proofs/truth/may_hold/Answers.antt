use Rattle.std.proofs.Common.{◌∙◌, ap, sym}
use Rattle.interval_model.specs.Space.{Space}
use Rattle.cover_model.specs.Narrowed.{enclosures}
use Rattle.ival.specs.RowViews.{rows_of}
use Rattle.ival.specs.SpaceViews.{space_of}
use Rattle.cover_rule.proofs.Axes.{has_rows}
use Rattle.cover_rule.proofs.truth.may_hold.Goals as goal

pub may-requires-clause-rows : goal.may-requires-clause-rows
may-requires-clause-rows c =
    let p = c.args.problem.now in
    has_rows p c.problem_is_whole.ensures (space_of c.space.result.now) (rows_of c.args.work.now.rows) (c.requires.work.rows ∙ ap (λ (s : Space). enclosures s p.nodes) (sym c.space.ensures))

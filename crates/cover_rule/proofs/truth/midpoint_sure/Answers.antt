use Rattle.std.proofs.Common.{List, ◌∙◌, ap}
use Rattle.poly_graph.specs.Term.{Node}
use Rattle.cover_model.specs.Narrowed.{enclosures}
use Rattle.ival.specs.RowViews.{rows_of}
use Rattle.ival.specs.SpaceViews.{space_of}
use Rattle.cover_rule.proofs.Axes.{has_rows}
use Rattle.cover_rule.proofs.truth.midpoint_sure.Goals as goal

pub sure-requires-clause-rows : goal.sure-requires-clause-rows
sure-requires-clause-rows c =
    has_rows c.args.problem.now c.graph.ensures.whole (space_of c.middle.new.into) (rows_of c.fill.new.rows) (c.fill.ensures.rows ∙ ap (λ (ns : List Node). enclosures (space_of c.middle.new.into) ns) c.graph.ensures.graph)

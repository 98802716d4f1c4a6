use Rattle.std.proofs.Common.{◌∙◌, ap, sym, length}
use Rattle.interval_model.specs.Space.{Space}
use Rattle.cover_model.specs.Narrowed.{enclosures}
use Rattle.ival.specs.RowViews.{rows_of}
use Rattle.ival.specs.SpaceViews.{space_of}
use Rattle.poly_graph.specs.ProblemViews.{problem_of}
use Rattle.cover_rule.proofs.Axes.{fits_length, has_rows}
use Rattle.cover_rule.proofs.truth.is_sure_at_middle.Goals as goal

pub find_centre-requires-clause-space : goal.find_centre-requires-clause-space
find_centre-requires-clause-space c = ap length c.space.ensures ∙ fits_length (problem_of c.args.problem.now).axes c.args.state.now.space c.requires.state.axes

pub sure-is_sure-requires-clause-rows : goal.sure-is_sure-requires-clause-rows
sure-is_sure-requires-clause-rows c =
    let p = c.args.problem.now in let k = c.find_centre.ensures.is in
    has_rows p c.problem_is_whole.ensures (space_of c.find_centre.new.centre.middle) (rows_of c.find_centre.new.centre.rows) (k.filled ∙ ap (λ (s : Space). enclosures s p.nodes) (sym k.place))

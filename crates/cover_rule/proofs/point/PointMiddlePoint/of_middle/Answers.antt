use Rattle.std.proofs.Common.{◌∙◌, sym, subst}
use Rattle.poly_graph.specs.ProblemViews.{problem_of}
use Rattle.cover_model.specs.Fits.{IsShownAt}
use Rattle.cover_data.specs.Margins.{loosenings_of}
use Rattle.cover_rule.proofs.Points.{middle_shown}
use Rattle.cover_rule.proofs.point.PointMiddlePoint.of_middle.Goals as goal

pub shown-requires : goal.shown-requires
shown-requires c =
    let p = problem_of c.args.problem.now in let s = loosenings_of c.args.margins.now in
    subst (IsShownAt p s) (sym c.midpoint_sure.ensures.middle)
    (middle_shown p c.graph.ensures.whole.problem s c.requires.margins.few_delta c.args.space.now c.requires.space (sym c.midpoint_sure.ensures.sure ∙ c.if-midpoint_sure.true))

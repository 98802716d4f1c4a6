use Rattle.std.proofs.Common.{◌++◌, ◌∙◌, List, ap}
use Rattle.std.specs.Prelude.{option_map}
use Rattle.dyadic.specs.Views.{dyadic_of, ext_of}
use Rattle.ival.specs.SpaceViews.{space_of}
use Rattle.poly_graph.specs.Problem.{Axis}
use Rattle.poly_graph.specs.ProblemViews.{problem_of}
use Rattle.cert_model.specs.AnswerText.{axes_text, value_text}
use Rattle.check_run.specs.Bounds.{cause_of}
use Rattle.check_run.proofs.Bounds.{bounds_told}
use Rattle.check_run.proofs.minimized.goal_bounds.Goals as goal

pub returns : goal.returns
returns c =
    bounds_told (problem_of c.args.problem.now) c.args.budget (cause_of c.args.cause) (option_map dyadic_of c.args.bounds.lower) (ext_of c.args.bounds.upper) (space_of c.args.point.now)
    c.in_ok-text.text.items c.append_bounds.new.text.items c.append_axes.new.text.items c.in_ok-text.ensures c.in_ok-append_bounds.ensures
    (c.in_ok-append_axes.ensures ∙ ap (λ (axes : List Axis). c.append_bounds.new.text.items ++ axes_text value_text axes (space_of c.args.point.now)) c.axes.ensures.axes)

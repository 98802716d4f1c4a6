use Rattle.std.proofs.Common.{List, ap, ◌∙◌}
use Rattle.std.proofs.lemmas.Bool.{le-ltb}
use Rattle.poly_graph.specs.Problem.{Axis, crossed_in}
use Rattle.cert_check.proofs.Axes.{crossed_at, crossed_past}
use Rattle.cert_check.proofs.names.crosses.Goals as goal

pub returns-then-axis-axes : goal.returns-then-axis-axes
returns-then-axis-axes c =
    let axes = c.axes-axes.result.now in let a = c.index-axes-axis.result in
    c.is_crossed.ensures ∙ crossed_at axes c.args.axis a c.if-axis-axes.true ∙ ap (λ (xs : List Axis). crossed_in xs c.args.axis) c.axes-axes.ensures.axes

pub returns-else-axis-axes : goal.returns-else-axis-axes
returns-else-axis-axes c =
    let axes = c.axes-axes.result.now in
    le-ltb c.args.axis _ c.if-axis-axes.false ∙ crossed_past axes c.args.axis c.if-axis-axes.false ∙ ap (λ (xs : List Axis). crossed_in xs c.args.axis) c.axes-axes.ensures.axes

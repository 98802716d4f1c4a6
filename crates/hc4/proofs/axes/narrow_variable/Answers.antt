use Rattle.std.proofs.Common.{◌≤◌, length, ap, sym, ◌∙◌, arith}
use Rattle.interval_model.specs.Interval.{Interval}
use Rattle.dyadic.specs.Views.{dyadic_of}
use Rattle.cover_model.specs.Narrowed.{set_axis}
use Rattle.cover_model.proofs.Axes.{set_axis_is, set_past, set_kept}
use Rattle.ival.specs.Views.{interval_of}
use Rattle.ival.specs.SpaceViews.{space_of}
use Rattle.hc4.proofs.axes.narrow_variable.Goals as goal

pub returns-then-axis-len-clause-axes : goal.returns-then-axis-len-clause-axes
returns-then-axis-len-clause-axes c =
    let space = space_of c.args.space.now in let past : length space ≤ c.args.axis = omega (arith, c.if-axis-len.true, c.len.ensures) in
    sym (set_past c.args.axis (interval_of c.args.interval) space past)

pub returns-in-Some-clause-axes : goal.returns-in-Some-clause-axes
returns-in-Some-clause-axes c =
    let space = space_of c.args.space.now in let range = c.in-Some.range in let axis = c.args.axis in
    c.set_real.ensures.axes ∙ sym (ap (λ (i : Interval). set_axis axis i space) c.in-Some.ensures ∙ set_axis_is axis (dyadic_of range.low) (dyadic_of range.high) space)

pub returns-in-None-clause-axes : goal.returns-in-None-clause-axes
returns-in-None-clause-axes c = sym (set_kept (interval_of c.args.interval) c.in-None.ensures c.args.axis (space_of c.args.space.now))

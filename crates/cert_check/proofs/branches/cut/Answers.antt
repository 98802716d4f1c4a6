use Rattle.std.proofs.Common.{ap, sym, ◌∙◌}
use Rattle.interval_model.specs.Space.{strictly_inside, holds_number, test_axis}
use Rattle.dyadic.specs.Views.{dyadic_of}
use Rattle.ival.specs.SpaceViews.{space_of}
use Rattle.cert_check.proofs.Axes.{weaker, inside_holds}
use Rattle.cert_check.proofs.branches.cut.Goals as goal

pub keep_low-requires : goal.keep_low-requires
keep_low-requires c = let place = dyadic_of c.args.place in
    weaker (strictly_inside place) (holds_number place) (inside_holds place) c.args.axis (space_of c.args.state.space) (sym c.can_cut.ensures ∙ c.if-not-can_cut.false)

pub keep_high-requires : goal.keep_high-requires
keep_high-requires c = let place = dyadic_of c.args.place in
    weaker (strictly_inside place) (holds_number place) (inside_holds place) c.args.axis (space_of c.in_ok-upper.upper.space)
    (ap (λ S. test_axis (strictly_inside place) c.args.axis S.space) c.in_ok-upper.ensures ∙ sym c.can_cut.ensures ∙ c.if-not-can_cut.false)

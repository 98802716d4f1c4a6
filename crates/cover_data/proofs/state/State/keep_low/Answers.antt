use Rattle.std.proofs.Common.{sym, subst, IsTrue}
use Rattle.interval_model.specs.Space.{test_axis, strictly_inside}
use Rattle.dyadic.specs.Views.{dyadic_of}
use Rattle.cover_model.specs.State.{State}
use Rattle.ival.specs.SpaceViews.{space_of}
use Rattle.cover_data.proofs.Withins.{number_held}
use Rattle.cover_data.proofs.state.State.keep_low.Goals as goal

pub keep_low-requires : goal.keep_low-requires
keep_low-requires c = number_held (dyadic_of c.args.cut) c.args.axis (space_of c.self.inside.space)
    (subst (λ (S : State). IsTrue (test_axis (strictly_inside (dyadic_of c.args.cut)) c.args.axis S.space)) (sym c.self.view_is) c.requires)

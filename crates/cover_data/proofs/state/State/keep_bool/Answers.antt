use Rattle.std.proofs.Common.{sym, subst, IsTrue}
use Rattle.interval_model.specs.Space.{test_axis, is_undecided}
use Rattle.cover_model.specs.State.{State}
use Rattle.ival.specs.SpaceViews.{space_of}
use Rattle.cover_data.proofs.Withins.{value_allowed}
use Rattle.cover_data.proofs.state.State.keep_bool.Goals as goal

pub keep_bool-requires : goal.keep_bool-requires
keep_bool-requires c = value_allowed c.args.value c.args.axis (space_of c.self.inside.space)
    (subst (λ (S : State). IsTrue (test_axis is_undecided c.args.axis S.space)) (sym c.self.view_is) c.requires)

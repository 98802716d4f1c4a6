use Rattle.std.proofs.Common.{ap, sym, ◌∙◌, true, false}
use Rattle.interval_model.specs.Space.{is_undecided, allows, test_axis}
use Rattle.ival.specs.SpaceViews.{space_of}
use Rattle.cert_check.proofs.Axes.{weaker, undecided_allows}
use Rattle.cert_check.proofs.branches.flip.Goals as goal

pub keep_bool-requires : goal.keep_bool-requires
keep_bool-requires c =
    weaker is_undecided (λ d. allows d false) (undecided_allows false) c.args.axis (space_of c.args.state.space) (sym c.can_flip.ensures ∙ c.if-not-can_flip.false)

pub keep_bool-requires-2 : goal.keep_bool-requires-2
keep_bool-requires-2 c =
    weaker is_undecided (λ d. allows d true) (undecided_allows true) c.args.axis (space_of c.in_ok-upper.upper.space)
    (ap (λ S. test_axis is_undecided c.args.axis S.space) c.in_ok-upper.ensures ∙ sym c.can_flip.ensures ∙ c.if-not-can_flip.false)

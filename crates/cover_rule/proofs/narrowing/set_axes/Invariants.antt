use Rattle.std.proofs.Common.{◌≡◌, false}
use Rattle.cover_model.specs.State.{with_space}
use Rattle.ival.specs.SpaceViews.{space_of}
use Rattle.cover_rule.proofs.Axes.{blend}
use Rattle.cover_rule.proofs.narrowing.set_axes.Given as goal

abbrev pub invariant-loop-axis : goal.invariant-loop-axis
invariant-loop-axis l = record {
  state : l.state ≡ with_space l.initial.state (blend l.axis (space_of l.space) l.initial.state.space);
  same : l.is_changed ≡ false → l.state ≡ l.initial.state;
}

use Rattle.std.proofs.Common.{◌≡◌, ℕ, ◌<◌, false}
use Rattle.interval_model.specs.Space.{is_undecided, test_axis}
use Rattle.box_worker.proofs.branching.flip_any.Given as goal

abbrev pub invariant-loop-axis : goal.invariant-loop-axis
invariant-loop-axis l = record {
  same : l.patch ≡ l.initial.patch;
  none : (i : ℕ) → i < l.axis → test_axis is_undecided i l.initial.patch.kept.reached.space ≡ false;
}

use Rattle.std.proofs.Common.{◌≡◌, ◌≢◌, ◌≤◌, length, drop, true, false}
use Rattle.cover_model.specs.Narrowed.{with_axes}
use Rattle.ival.specs.SpaceViews.{space_of}
use Rattle.ival.specs.Options.{options_of}
use Rattle.hc4.proofs.axes.narrow_axes.Given as goal

-- the axes of the nodes from this place on are narrowed
abbrev pub invariant-loop-n : goal.invariant-loop-n
invariant-loop-n l = record {
  inside : l.place ≤ length l.graph;
  axes : space_of l.space ≡ with_axes (drop l.place l.graph) (drop l.place (options_of l.scratch)) (space_of l.initial.space);
  same : l.is_less ≡ false → space_of l.space ≡ space_of l.initial.space;
  less : l.is_less ≡ true → space_of l.space ≢ space_of l.initial.space;
}

abbrev pub decreases-loop-n : goal.decreases-loop-n
decreases-loop-n l = l.place

use Rattle.std.proofs.Common.{◌≡◌, ◌≤◌, length, take, map}
use Rattle.cover_model.specs.Root.{root_of_axes}
use Rattle.poly_graph.specs.ProblemViews.{axis_of}
use Rattle.ival.specs.SpaceViews.{space_of, capacity_of}
use Rattle.form_truth.proofs.root.root_domains.Given as goal

-- the domains of the axes so far
abbrev pub invariant-loop-axis : goal.invariant-loop-axis
invariant-loop-axis l = record {
  axes : space_of l.space ≡ take l.axis (root_of_axes (map axis_of l.axes));
  room : length l.axes ≤ capacity_of l.space;
}

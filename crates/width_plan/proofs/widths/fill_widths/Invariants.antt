use Rattle.std.proofs.Common.{◌≡◌, ℕ, ◌<◌, length, map}
use Rattle.dyadic.specs.Views.{ext_of}
use Rattle.ival.specs.SpaceViews.{space_of}
use Rattle.width_plan.specs.NodeWidth.{graph_widths, width_at}
use Rattle.width_plan.proofs.widths.fill_widths.Given as goal

-- the widths so far are those of the nodes
abbrev pub invariant-loop-place : goal.invariant-loop-place
invariant-loop-place l = record {
  count : length l.widths ≡ length l.graph;
  filled : (k : ℕ) → k < l.place → width_at (map ext_of l.widths) k ≡ width_at (graph_widths (space_of l._root) l.bits l.graph) k;
}

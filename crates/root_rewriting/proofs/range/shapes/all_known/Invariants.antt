use Rattle.std.proofs.Common.{◌≡◌, drop, map}
use Rattle.ival.specs.Views.{interval_of}
use Rattle.script_roots.specs.TreeBounds.{all_known_in}
use Rattle.root_rewriting.specs.Shapes.{shape_at}
use Rattle.root_rewriting.proofs.Shaped.{known_with}
use Rattle.root_rewriting.proofs.range.shapes.all_known.Given as goal

-- what is left leads to the same
abbrev pub invariant-loop-part : goal.invariant-loop-part
invariant-loop-part l = known_with (map interval_of l.known.items) (all_known_in (map (shape_at l.shapes) (drop l.part-index l.parts))) ≡ all_known_in (map (shape_at l.shapes) l.parts)

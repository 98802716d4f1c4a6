use Rattle.std.proofs.Common.{map}
use Rattle.term_build.specs.Shapes.{sketch_of, frame_of}
use Rattle.term_build.specs.Turns.{IsDraining, turns_left}
use Rattle.term_build.proofs.shape.drain.Given as goal

abbrev pub invariant-loop-frame : goal.invariant-loop-frame
invariant-loop-frame l = IsDraining (map sketch_of l.sketch) l.fn.builder l.builder l.fn.memo l.memo (map frame_of l.fn.stack.items) (map frame_of l.stack.items)

abbrev pub decreases-loop-frame : goal.decreases-loop-frame
decreases-loop-frame l = turns_left (map sketch_of l.sketch) l.memo (map frame_of l.stack.items)

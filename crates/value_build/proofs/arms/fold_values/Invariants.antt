use Rattle.std.proofs.Common.{length, map}
use Rattle.smt_sexp.specs.Views.{place_of}
use Rattle.term_build.specs.Shapes.{sketch_of}
use Rattle.value_build.specs.Loops.{IsFoldingArms}
use Rattle.value_build.proofs.arms.fold_values.Given as goal

abbrev pub invariant-loop-next : goal.invariant-loop-next
invariant-loop-next l = IsFoldingArms (place_of l.at) l.step l.fn.builder l.builder (map sketch_of l.fn.sketch.items) (map sketch_of l.sketch.items) l.fn.first l.rest l.so_far l.left

abbrev pub decreases-loop-next : goal.decreases-loop-next
decreases-loop-next l = length l.left

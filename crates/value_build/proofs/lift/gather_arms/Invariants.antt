use Rattle.std.proofs.Common.{map}
use Rattle.term_build.specs.Shapes.{sketch_of}
use Rattle.value_build.proofs.Gathering.{IsGatheringArms}
use Rattle.std.specs.Vec.{vec_len}
use Rattle.value_build.proofs.lift.gather_arms.Given as goal

abbrev pub invariant-loop-entry : goal.invariant-loop-entry
invariant-loop-entry l = IsGatheringArms (map sketch_of l.fn.sketch.items) (map sketch_of l.sketch.items) l.fn.entries.items l.entries.items l.made.items

abbrev pub decreases-loop-entry : goal.decreases-loop-entry
decreases-loop-entry l = vec_len l.entries

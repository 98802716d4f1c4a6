use Rattle.std.proofs.Common.{length, map}
use Rattle.term_build.specs.Shapes.{sketch_of}
use Rattle.value_build.specs.Chains.{Connecting, two_of}
use Rattle.value_build.proofs.chains.connect_with.Given as goal

abbrev pub invariant-loop-other : goal.invariant-loop-other
invariant-loop-other l = Connecting (two_of l.spread) (map sketch_of l.fn.sketch.items) (map sketch_of l.sketch.items) l.first l.others l.fn.made.items l.made.items l.left

abbrev pub decreases-loop-other : goal.decreases-loop-other
decreases-loop-other l = length l.left

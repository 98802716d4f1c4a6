use Rattle.std.proofs.Common.{length, map}
use Rattle.term_build.specs.Shapes.{sketch_of}
use Rattle.value_build.specs.Chains.{ConnectingEach, two_of}
use Rattle.value_build.proofs.chains.connect_each.Given as goal

abbrev pub invariant-loop-first : goal.invariant-loop-first
invariant-loop-first l = ConnectingEach l.spread (two_of l.spread) (map sketch_of l.fn.sketch.items) (map sketch_of l.sketch.items) l.pairs l.made.items l.left

abbrev pub decreases-loop-first : goal.decreases-loop-first
decreases-loop-first l = length l.left

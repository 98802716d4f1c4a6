use Rattle.std.proofs.Common.{length}
use Rattle.poly_graph.specs.Views.{kind_of}
use Rattle.term_build.specs.Built.{stand_of}
use Rattle.value_build.specs.Arithmetic.{AreNodes}
use Rattle.value_build.specs.Bounds.{IsListing, chained_bounds}
use Rattle.value_build.specs.Weights.{weights}
use Rattle.value_build.proofs.bounds.chain_bounds.Given as goal

abbrev pub invariant-loop-first : goal.invariant-loop-first
invariant-loop-first l = AreNodes l.builder l.left × IsListing (kind_of l.kind) (stand_of l.builder).trees l.fn.bounds l.bounds (chained_bounds (kind_of l.kind) (weights (stand_of l.builder).trees l.nodes)) l.parts.items (chained_bounds (kind_of l.kind) (weights (stand_of l.builder).trees l.left))

abbrev pub decreases-loop-first : goal.decreases-loop-first
decreases-loop-first l = length l.left

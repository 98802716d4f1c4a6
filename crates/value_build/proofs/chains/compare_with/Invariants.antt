use Rattle.std.proofs.Common.{length, map}
use Rattle.poly_graph.specs.Views.{kind_of}
use Rattle.smt_sexp.specs.Views.{place_of}
use Rattle.term_build.specs.Pairs.{compared}
use Rattle.term_build.specs.Shapes.{sketch_of}
use Rattle.value_build.specs.Chains.{Comparing}
use Rattle.value_build.proofs.chains.compare_with.Given as goal

abbrev pub invariant-loop-other : goal.invariant-loop-other
invariant-loop-other l = Comparing (compared (kind_of l.kind) (place_of l.at)) (map sketch_of l.fn.sketch.items) (map sketch_of l.sketch.items) l.first l.others l.fn.made.items l.made.items l.left

abbrev pub decreases-loop-other : goal.decreases-loop-other
decreases-loop-other l = length l.left

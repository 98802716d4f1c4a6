use Rattle.std.proofs.Common.{length, map}
use Rattle.poly_graph.specs.Views.{kind_of}
use Rattle.smt_sexp.specs.Views.{place_of}
use Rattle.term_build.specs.Pairs.{compared}
use Rattle.term_build.specs.Shapes.{sketch_of}
use Rattle.value_build.specs.Chains.{Spreading}
use Rattle.value_build.proofs.chains.compare_each.Given as goal

abbrev pub invariant-loop-first : goal.invariant-loop-first
invariant-loop-first l = Spreading l.spread (compared (kind_of l.kind) (place_of l.at)) (map sketch_of l.fn.sketch.items) (map sketch_of l.sketch.items) l.nodes l.made.items l.left

abbrev pub decreases-loop-first : goal.decreases-loop-first
decreases-loop-first l = length l.left

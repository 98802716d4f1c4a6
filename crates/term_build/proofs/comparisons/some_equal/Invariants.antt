use Rattle.std.proofs.Common.{length, []}
use Rattle.smt_sexp.specs.Views.{place_of}
use Rattle.term_build.specs.Built.{stand_of}
use Rattle.term_build.specs.Gathers.{Gathering}
use Rattle.term_build.specs.Shapes.{AreNumbers}
use Rattle.term_build.specs.Sketch.{equal_pairs}
use Rattle.term_build.proofs.comparisons.some_equal.Given as goal

abbrev pub invariant-loop-first : goal.invariant-loop-first
invariant-loop-first l = record {
  below : AreNumbers (length l.fn.builder.nodes) l.left;
  gathering : Gathering l.fn.builder l.builder (equal_pairs (stand_of l.fn.builder).trees (place_of l.at) l.nodes) (equal_pairs (stand_of l.fn.builder).trees (place_of l.at) l.left) [] l.made.items;
}

abbrev pub decreases-loop-first : goal.decreases-loop-first
decreases-loop-first l = length l.left

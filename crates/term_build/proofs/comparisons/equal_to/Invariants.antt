use Rattle.std.proofs.Common.{length}
use Rattle.smt_sexp.specs.Views.{place_of}
use Rattle.term_build.specs.Built.{stand_of}
use Rattle.term_build.specs.Gathers.{Gathering}
use Rattle.term_build.specs.Shapes.{AreNumbers}
use Rattle.term_build.specs.Sketch.{equal_with}
use Rattle.term_build.proofs.comparisons.equal_to.Given as goal

abbrev pub invariant-loop-other : goal.invariant-loop-other
invariant-loop-other l = record {
  below : AreNumbers (length l.fn.builder.nodes) l.left;
  gathering : Gathering l.fn.builder l.builder (equal_with (stand_of l.fn.builder).trees (place_of l.at) l.first l.others) (equal_with (stand_of l.fn.builder).trees (place_of l.at) l.first l.left) l.fn.made.items l.made.items;
}

abbrev pub decreases-loop-other : goal.decreases-loop-other
decreases-loop-other l = length l.left

use Rattle.std.proofs.Common.{map}
use Rattle.poly_graph.specs.Views.{kind_of}
use Rattle.smt_sexp.specs.Views.{place_of}
use Rattle.term_build.specs.Shapes.{sketch_of}
use Rattle.value_build.proofs.Gathering.{IsGatheringPairs}
use Rattle.std.specs.Vec.{vec_len}
use Rattle.value_build.proofs.lift.gather_pairs.Given as goal

abbrev pub invariant-loop-entry : goal.invariant-loop-entry
invariant-loop-entry l = IsGatheringPairs (kind_of l.kind) (place_of l.at) (map sketch_of l.fn.sketch.items) (map sketch_of l.sketch.items) l.fn.entries.items l.entries.items l.said.items

abbrev pub decreases-loop-entry : goal.decreases-loop-entry
decreases-loop-entry l = vec_len l.entries

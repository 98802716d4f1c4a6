use Rattle.std.proofs.Common.{map, subst, List, ℕ}
use Rattle.smt_sexp.specs.Views.{place_of}
use Rattle.term_build.specs.Pairs.{AddsPair}
use Rattle.term_build.specs.Shapes.{sketch_of}
use Rattle.term_build.specs.Sketch.{yes_sketch, equal_sketch}
use Rattle.term_build.proofs.Pairs.{adds_different}
use Rattle.term_build.proofs.connectives.Pair.different.Goals as goal

pub returns : goal.returns
returns c = adds_different (map sketch_of c.args.sketch.now.items) (map sketch_of c.add_pair.new.sketch.items) (place_of c.args.at) c.args.nodes.now c.add_pair.result
    (subst (λ (ks : List ℕ). AddsPair (map sketch_of c.args.sketch.now.items) (map sketch_of c.add_pair.new.sketch.items) yes_sketch (equal_sketch (place_of c.args.at) ks) c.add_pair.result) c.in_ok-nodes.ensures.items c.add_pair.ensures)

use Rattle.std.proofs.Common.{map, ℕ, List, subst}
use Rattle.term_build.specs.Shapes.{sketch_of}
use Rattle.term_build.specs.Sketch.{any_sketch}
use Rattle.term_build.specs.Pairs.{Adds}
use Rattle.term_build.proofs.Pairs.{joins_any}
use Rattle.term_build.proofs.connectives.either.Goals as goal

pub returns : goal.returns
returns c = joins_any (map sketch_of c.args.sketch.now.items) (map sketch_of c.add.new.sketch.items) c.args.a c.args.b c.add.result (subst (λ (ks : List ℕ). Adds (map sketch_of c.args.sketch.now.items) (map sketch_of c.add.new.sketch.items) (any_sketch ks) c.add.result) c.in_ok-children.ensures.items c.add.ensures)

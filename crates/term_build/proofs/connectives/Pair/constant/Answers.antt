use Rattle.std.proofs.Common.{map, subst, sym, Bool}
use Rattle.term_build.specs.Shapes.{sketch_of}
use Rattle.term_build.specs.Pairs.{Writes, constant_formula}
use Rattle.term_build.proofs.Pairs.{writes_true, writes_false}
use Rattle.term_build.proofs.connectives.Pair.constant.Goals as goal

pub returns-then-value : goal.returns-then-value
returns-then-value c = subst (λ (b : Bool). Writes (constant_formula b) (map sketch_of c.args.sketch.now.items) (map sketch_of c.add_pair.new.sketch.items) c.add_pair.result) (sym c.if-value.true) (writes_true (map sketch_of c.args.sketch.now.items) (map sketch_of c.add_pair.new.sketch.items) c.add_pair.result c.add_pair.ensures)

pub returns-else-value : goal.returns-else-value
returns-else-value c = subst (λ (b : Bool). Writes (constant_formula b) (map sketch_of c.args.sketch.now.items) (map sketch_of c.add_pair-else-value.new.sketch.items) c.add_pair-else-value.result) (sym c.if-value.false)
    (writes_false (map sketch_of c.args.sketch.now.items) (map sketch_of c.add_pair-else-value.new.sketch.items) c.add_pair-else-value.result c.add_pair-else-value.ensures)

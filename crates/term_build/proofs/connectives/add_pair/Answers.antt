use Rattle.std.proofs.Common.{map, Ok, Err}
use Rattle.term_build.specs.Shapes.{sketch_of}
use Rattle.term_build.proofs.Pairs.{adds_second, adds_both}
use Rattle.term_build.proofs.connectives.add_pair.Goals as goal

pub returns-in_err-negation : goal.returns-in_err-negation
returns-in_err-negation c = adds_second (map sketch_of c.args.sketch.now.items) (map sketch_of c.add.new.sketch.items) (map sketch_of c.add-2.new.sketch.items) (sketch_of c.args.yes) (sketch_of c.args.no) (Ok c.in_ok-truth.truth) (Err c.in_err-negation.field-0.0)
    c.from_residual-in_err-negation.result c.from_residual-in_err-negation.ensures.0 c.in_ok-truth.ensures c.in_err-negation.ensures

pub returns : goal.returns
returns c = adds_both (map sketch_of c.args.sketch.now.items) (map sketch_of c.add.new.sketch.items) (map sketch_of c.add-2.new.sketch.items) (sketch_of c.args.yes) (sketch_of c.args.no) c.in_ok-truth.truth c.in_ok-negation.negation c.in_ok-truth.ensures c.in_ok-negation.ensures

use Rattle.std.proofs.Common.{map}
use Rattle.term_build.specs.Shapes.{sketch_of}
use Rattle.term_build.proofs.Pairs.{choice_first, choice_second, choice_done}
use Rattle.term_build.proofs.connectives.Pair.choose.Goals as goal

pub returns-in_err-truth : goal.returns-in_err-truth
returns-in_err-truth c = choice_first (map sketch_of c.args.sketch.now.items) (map sketch_of c.four.new.sketch.items) c.args.condition c.args.first c.args.second c.in_err-truth.field-0.0 c.from_residual.result c.from_residual.ensures.0 c.in_err-truth.ensures

pub returns-in_err-negation : goal.returns-in_err-negation
returns-in_err-negation c = choice_second (map sketch_of c.args.sketch.now.items) (map sketch_of c.four.new.sketch.items) (map sketch_of c.four-2.new.sketch.items) c.args.condition c.args.first c.args.second c.in_ok-truth.truth c.in_err-negation.field-0.0 c.from_residual-in_err-negation.result c.from_residual-in_err-negation.ensures.0
    c.in_ok-truth.ensures c.in_err-negation.ensures

pub returns : goal.returns
returns c = choice_done (map sketch_of c.args.sketch.now.items) (map sketch_of c.four.new.sketch.items) (map sketch_of c.four-2.new.sketch.items) c.args.condition c.args.first c.args.second c.in_ok-truth.truth c.in_ok-negation.negation c.in_ok-truth.ensures c.in_ok-negation.ensures

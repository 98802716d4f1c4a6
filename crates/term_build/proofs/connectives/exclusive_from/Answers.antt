use Rattle.std.proofs.Common.{map}
use Rattle.term_build.specs.Shapes.{sketch_of}
use Rattle.term_build.proofs.Pairs.{stopped_at, step_at, done_at}
use Rattle.term_build.proofs.connectives.exclusive_from.Goals as goal

pub returns-in_err-so_far : goal.returns-in_err-so_far
returns-in_err-so_far c = stopped_at (map sketch_of c.args.sketch.now.items) (map sketch_of c.loop-pair.sketch.items) (map sketch_of c.exclusive_two.new.sketch.items) c.args.first c.args.rest.now c.loop-pair.so_far c.loop-pair.pair-index _ c.in_err-so_far.field-0.0 c.from_residual.result c.loop-pair-test.true c.from_residual.ensures.0 c.loop-pair.invariant
    c.in_err-so_far.ensures

pub loop-pair-preserved : goal.loop-pair-preserved
loop-pair-preserved c = step_at (map sketch_of c.args.sketch.now.items) (map sketch_of c.loop-pair.sketch.items) (map sketch_of c.exclusive_two.new.sketch.items) c.args.first c.args.rest.now c.loop-pair.so_far c.in_ok-so_far.so_far c.loop-pair.pair-index _ c.loop-pair-test.true c.loop-pair.invariant c.in_ok-so_far.ensures

pub returns : goal.returns
returns c = done_at (map sketch_of c.args.sketch.now.items) (map sketch_of c.loop-pair.sketch.items) c.args.first c.args.rest.now c.loop-pair.so_far c.loop-pair.pair-index c.loop-pair-test.false c.loop-pair.invariant

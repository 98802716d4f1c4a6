use Rattle.std.proofs.Common.{map, length, ◌+◌, ◌-◌, arith}
use Rattle.term_build.specs.Shapes.{sketch_of}
use Rattle.term_build.proofs.Pairs.{right_begun, right_step, right_stopped, right_done}
use Rattle.term_build.proofs.connectives.implies_from.Goals as goal

pub loop-i-init : goal.loop-i-init
loop-i-init c = right_begun (map sketch_of c.args.sketch.now.items) c.args.last c.args.before.now (length c.args.before.now - 0) (omega arith)

pub returns-in_err-so_far : goal.returns-in_err-so_far
returns-in_err-so_far c = right_stopped (map sketch_of c.args.sketch.now.items) (map sketch_of c.loop-i.sketch.items) (map sketch_of c.implies_two.new.sketch.items) c.args.last c.args.before.now c.loop-i.so_far (length c.args.before.now - c.loop-i.i) (length c.args.before.now - 1 - c.loop-i.i) _ c.in_err-so_far.field-0.0 c.from_residual.result c.from_residual.ensures.0 (omega arith) c.loop-i.invariant
    c.in_err-so_far.ensures

pub loop-i-preserved : goal.loop-i-preserved
loop-i-preserved c = right_step (map sketch_of c.args.sketch.now.items) (map sketch_of c.loop-i.sketch.items) (map sketch_of c.implies_two.new.sketch.items) c.args.last c.args.before.now c.loop-i.so_far c.in_ok-so_far.so_far (length c.args.before.now - c.loop-i.i) (length c.args.before.now - (c.loop-i.i + 1)) (length c.args.before.now - 1 - c.loop-i.i) _ (omega arith) (omega arith) (omega arith) c.loop-i.invariant
    c.in_ok-so_far.ensures

pub returns : goal.returns
returns c = right_done (map sketch_of c.args.sketch.now.items) (map sketch_of c.loop-i.sketch.items) c.args.last c.args.before.now c.loop-i.so_far (length c.args.before.now - c.loop-i.i) (omega arith) c.loop-i.invariant

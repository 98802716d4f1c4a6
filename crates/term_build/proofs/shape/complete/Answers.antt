use Rattle.std.proofs.Common.{subst, sym, Result, Err, Ok, map}
use Rattle.term_build.specs.Built.{stand_of}
use Rattle.term_build.specs.Shapes.{sketch_of, frame_of, Steps}
use Rattle.term_build.specs.declared.stop.Stop.{Stop}
use Rattle.term_build.proofs.Shaping.{completed_at, seen_at, safe_by}
use Rattle.term_build.proofs.Emits.{err_is}
use Rattle.term_build.proofs.shape.complete.Goals as goal

pub returns-in_err-number-clause-does : goal.returns-in_err-number-clause-does
returns-in_err-number-clause-does c = λ m0 es fs xs drawing sketch g. let ds = map sketch_of c.args.sketch.now in
    subst (λ (r : Result (Unit {0}) Stop). Steps (stand_of m0) es fs ds c.finish.new.builder c.args.memo.now xs r) (sym (err_is c.from_residual.result c.in_err-number.field-0.0 c.from_residual.ensures))
    (completed_at es fs ds m0 c.args.builder.now c.finish.new.builder c.args.memo.now xs (frame_of c.args.frame) (Err c.in_err-number.field-0.0) (sketch_of c.index-sketch-node.result) drawing sketch g
    (seen_at sketch_of c.args.sketch.now c.args.frame.node c.index-sketch-node.result c.requires.framed.node c.index-sketch-node.is) c.requires.done (c.in_err-number.ensures.does))

pub returns-clause-does : goal.returns-clause-does
returns-clause-does c = λ m0 es fs xs drawing sketch g. let ds = map sketch_of c.args.sketch.now in
    completed_at es fs ds m0 c.args.builder.now c.finish.new.builder c.args.memo.now xs (frame_of c.args.frame) (Ok c.in_ok-number.number) (sketch_of c.index-sketch-node.result) drawing sketch g
    (seen_at sketch_of c.args.sketch.now c.args.frame.node c.index-sketch-node.result c.requires.framed.node c.index-sketch-node.is) c.requires.done (c.in_ok-number.ensures.does)

pub returns-clause-safe : goal.returns-clause-safe
returns-clause-safe c = safe_by (map sketch_of c.args.sketch.now) c.args.builder.now c.finish.new.builder c.args.memo.now c.args.frame.node (sketch_of c.index-sketch-node.result) c.args.frame.numbers.items c.in_ok-number.number
    c.requires.sketched c.requires.kept c.finish.ensures.sorts (c.in_ok-number.ensures.does)

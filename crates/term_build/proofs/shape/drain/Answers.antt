use Rattle.std.proofs.Common.{List, map, Result, subst, sym, ◌∙◌, arith, [], ◌<◌}
use Rattle.term_build.specs.Built.{stand_of}
use Rattle.term_build.specs.Shapes.{Frame, IsWalkLeft, IfDone, sketch_of, frame_of, Steps}
use Rattle.term_build.specs.Turns.{AreStacked, IsNumbered, IsRooted, turns_left}
use Rattle.term_build.specs.declared.stop.Stop.{Stop}
use Rattle.term_build.proofs.Emits.{err_is}
use Rattle.term_build.proofs.Shaping.{popped, popped_frames, nothing_left}
use Rattle.term_build.proofs.shape.drain.Goals as goal

pub returns-clause-does : goal.returns-clause-does
returns-clause-does c = λ m0 es fs drawing sketch g. let ds = map sketch_of c.args.sketch.now in
    subst (λ (xs : List Frame). IsWalkLeft (stand_of m0) es fs ds c.loop-frame.builder c.loop-frame.memo xs)
    (nothing_left c.loop-frame.stack.items c.pop.new.self.items c.in_default.ensures.items (omega (arith, c.in_default.ensures.cases.1, c.pop.new.self.ok))) (c.loop-frame.invariant.drains m0 es fs drawing sketch g)

pub step-requires-clause-framed : goal.step-requires-clause-framed
step-requires-clause-framed c = (popped_frames (map sketch_of c.args.sketch.now) c.loop-frame.builder c.loop-frame.stack.items c.pop.new.self.items c.in-Some.frame c.in-Some.ensures.items c.loop-frame.invariant.framed).1

pub returns-in_err-step-clause-does : goal.returns-in_err-step-clause-does
returns-in_err-step-clause-does c = λ m0 es fs drawing sketch g. let ds = map sketch_of c.args.sketch.now in
    subst (λ (r : Result (Unit {0}) Stop). Steps (stand_of m0) es fs ds c.step.new.builder c.step.new.memo [] r) (sym (err_is c.from_residual.result c.in_err-step.field-0.0 c.from_residual.ensures))
    (c.in_err-step.ensures.does m0 es fs drawing sketch (subst (λ (xs : List Frame). IsWalkLeft (stand_of m0) es fs ds c.loop-frame.builder c.loop-frame.memo xs)
    (popped c.loop-frame.stack.items c.pop.new.self.items c.in-Some.frame c.in-Some.ensures.items) (c.loop-frame.invariant.drains m0 es fs drawing sketch g)))

pub loop-frame-preserved : goal.loop-frame-preserved
loop-frame-preserved c = let ds = map sketch_of c.args.sketch.now in record {
  sketched = c.in_ok-step.ensures.safe.sketched;
  kept = c.in_ok-step.ensures.safe.kept;
  framed = c.in_ok-step.ensures.frames (popped_frames ds c.loop-frame.builder c.loop-frame.stack.items c.pop.new.self.items c.in-Some.frame c.in-Some.ensures.items c.loop-frame.invariant.framed).0;
  nested = c.in_ok-step.ensures.turn.nested;
  rooted = λ root r. c.in_ok-step.ensures.turn.rooted root (subst (λ (xs : List Frame). IsRooted c.loop-frame.memo root xs)
      (popped c.loop-frame.stack.items c.pop.new.self.items c.in-Some.frame c.in-Some.ensures.items) (c.loop-frame.invariant.rooted root r));
  drains = λ m0 es fs drawing sketch g. c.in_ok-step.ensures.does m0 es fs drawing sketch (subst (λ (xs : List Frame). IsWalkLeft (stand_of m0) es fs ds c.loop-frame.builder c.loop-frame.memo xs)
      (popped c.loop-frame.stack.items c.pop.new.self.items c.in-Some.frame c.in-Some.ensures.items) (c.loop-frame.invariant.drains m0 es fs drawing sketch g));
  sorts = c.in_ok-step.ensures.sorts ∙ c.loop-frame.invariant.sorts;
}

pub loop-frame-smaller : goal.loop-frame-smaller
loop-frame-smaller c = let ds = map sketch_of c.args.sketch.now in
    subst (λ (xs : List Frame). turns_left ds c.step.new.memo (map frame_of c.step.new.stack.items) < turns_left ds c.loop-frame.memo xs)
    (sym (popped c.loop-frame.stack.items c.pop.new.self.items c.in-Some.frame c.in-Some.ensures.items)) c.in_ok-step.ensures.turn.falls

pub step-requires-clause-nested : goal.step-requires-clause-nested
step-requires-clause-nested c = subst (λ (xs : List Frame). AreStacked (map sketch_of c.args.sketch.now) c.loop-frame.memo xs)
    (popped c.loop-frame.stack.items c.pop.new.self.items c.in-Some.frame c.in-Some.ensures.items) c.loop-frame.invariant.nested

pub returns-clause-rooted : goal.returns-clause-rooted
returns-clause-rooted c = λ root r. subst (λ (xs : List Frame). IsRooted c.loop-frame.memo root xs)
    (nothing_left c.loop-frame.stack.items c.pop.new.self.items c.in_default.ensures.items (omega (arith, c.in_default.ensures.cases.1, c.pop.new.self.ok))) (c.loop-frame.invariant.rooted root r)

pub returns-in_err-step-clause-rooted : goal.returns-in_err-step-clause-rooted
returns-in_err-step-clause-rooted c = λ root r. subst (λ (x : Result (Unit {0}) Stop). IfDone x (IsNumbered c.step.new.memo root)) (sym (err_is c.from_residual.result c.in_err-step.field-0.0 c.from_residual.ensures)) tt

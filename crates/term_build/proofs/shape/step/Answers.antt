use Rattle.std.proofs.Common.{map, sym, ap, refl, ◌∙◌, arith, Some, None}
use Rattle.term_build.specs.Built.{stand_of}
use Rattle.term_build.specs.Shapes.{sketch_of, frame_of}
use Rattle.term_build.proofs.Shaping.{seen_at, child_below, advanced_items, descended_items, frames_advanced, frames_descended, if_frames}
use Rattle.term_build.proofs.Lists.{index_get}
use Rattle.term_build.proofs.Turns.{turned_on, turned_down, turned_up}
use Rattle.term_build.proofs.shape.step.Goals as goal

pub returns-in_default-clause-does : goal.returns-in_default-clause-does
returns-in_default-clause-does c = λ m0 es fs drawing sketch g. c.complete.ensures.does m0 es fs (map frame_of c.args.stack.now.items) drawing sketch g

pub bounds : goal.bounds
bounds c = let d = sketch_of c.index-sketch-frame.result in let ds = map sketch_of c.args.sketch.now in
    omega (
      arith,
      child_below ds c.args.frame.node d c.len.result c.in-Some.child c.requires.sketched.ordered (seen_at sketch_of c.args.sketch.now c.args.frame.node c.index-sketch-frame.result c.requires.framed.node c.index-sketch-frame.is) (sym c.in-Some.ensures),
      c.requires.framed.node,
      c.requires.kept.count,
    )

pub returns-in-Some-memo-clause-does : goal.returns-in-Some-memo-clause-does
returns-in-Some-memo-clause-does c = λ m0 es fs drawing sketch g. let d = sketch_of c.index-sketch-frame.result in let ds = map sketch_of c.args.sketch.now in
    let at = seen_at sketch_of c.args.sketch.now c.args.frame.node c.index-sketch-frame.result c.requires.framed.node c.index-sketch-frame.is in
    let less = child_below ds c.args.frame.node d c.len.result c.in-Some.child c.requires.sketched.ordered at (sym c.in-Some.ensures) in
    advanced_items (stand_of m0) es fs ds c.args.builder.now c.args.memo.now c.args.stack.now.items c.push-in-Some-memo.new.self.items c.args.frame _ d c.len.result c.in-Some.child c.in-Some-memo.number
    g at (omega (arith, c.len.ensures, c.args.frame.numbers.ok)) c.in-Some.ensures (omega (arith, less, c.requires.framed.node, c.requires.kept.count)) c.in-Some-memo.is c.in_ok-push-2.ensures.items refl c.in_ok-push.ensures.items

pub returns-clause-does : goal.returns-clause-does
returns-clause-does c = λ m0 es fs drawing sketch g. let d = sketch_of c.index-sketch-frame.result in let ds = map sketch_of c.args.sketch.now in
    let at = seen_at sketch_of c.args.sketch.now c.args.frame.node c.index-sketch-frame.result c.requires.framed.node c.index-sketch-frame.is in
    let less = child_below ds c.args.frame.node d c.len.result c.in-Some.child c.requires.sketched.ordered at (sym c.in-Some.ensures) in
    descended_items m0 es fs ds c.args.builder.now c.args.memo.now c.args.stack.now.items c.push-2.new.self.items c.push-3.new.self.items c.args.frame _ _ d c.len.result c.in-Some.child drawing
    g at (omega (arith, c.len.ensures, c.args.frame.numbers.ok)) c.in-Some.ensures (omega (arith, less, c.requires.framed.node)) c.in_ok-push-3.ensures.items refl c.in_ok-push-4.ensures.items refl c.new.ensures.items

pub returns-in_default-clause-frames : goal.returns-in_default-clause-frames
returns-in_default-clause-frames c = λ h. if_frames (map sketch_of c.args.sketch.now) c.args.builder.now c.complete.new.builder c.complete.new.memo (map frame_of c.args.stack.now.items) c.complete.result c.complete.ensures.safe h

pub returns-in-Some-memo-clause-frames : goal.returns-in-Some-memo-clause-frames
returns-in-Some-memo-clause-frames c = λ h. let d = sketch_of c.index-sketch-frame.result in let ds = map sketch_of c.args.sketch.now in
    let at = seen_at sketch_of c.args.sketch.now c.args.frame.node c.index-sketch-frame.result c.requires.framed.node c.index-sketch-frame.is in
    let less = child_below ds c.args.frame.node d c.len.result c.in-Some.child c.requires.sketched.ordered at (sym c.in-Some.ensures) in
    frames_advanced ds c.args.builder.now c.args.stack.now.items c.push-in-Some-memo.new.self.items c.args.frame _ c.in-Some-memo.number h c.requires.framed
    (c.requires.kept.numbers c.in-Some.child c.in-Some-memo.number (index_get c.args.memo.now c.in-Some.child None (omega (arith, less, c.requires.framed.node, c.requires.kept.count)) ∙ ap (λ x. Some x) c.in-Some-memo.is))
    c.in_ok-push-2.ensures.items refl c.in_ok-push.ensures.items

pub returns-clause-frames : goal.returns-clause-frames
returns-clause-frames c = λ h. let d = sketch_of c.index-sketch-frame.result in let ds = map sketch_of c.args.sketch.now in
    let at = seen_at sketch_of c.args.sketch.now c.args.frame.node c.index-sketch-frame.result c.requires.framed.node c.index-sketch-frame.is in
    let less = child_below ds c.args.frame.node d c.len.result c.in-Some.child c.requires.sketched.ordered at (sym c.in-Some.ensures) in
    frames_descended ds c.args.builder.now c.args.stack.now.items c.push-2.new.self.items c.push-3.new.self.items c.args.frame _ _ c.in-Some.child h c.requires.framed (omega (arith, less, c.requires.framed.node))
    c.in_ok-push-3.ensures.items refl c.in_ok-push-4.ensures.items refl c.new.ensures.items

pub returns-in_default-clause-turn : goal.returns-in_default-clause-turn
returns-in_default-clause-turn c = turned_up (map sketch_of c.args.sketch.now) c.args.memo.now c.complete.new.memo c.args.stack.now.items c.args.frame c.complete.result c.requires.nested c.complete.ensures.made

pub returns-in-Some-memo-clause-turn : goal.returns-in-Some-memo-clause-turn
returns-in-Some-memo-clause-turn c = let d = sketch_of c.index-sketch-frame.result in let ds = map sketch_of c.args.sketch.now in
    let at = seen_at sketch_of c.args.sketch.now c.args.frame.node c.index-sketch-frame.result c.requires.framed.node c.index-sketch-frame.is in
    turned_on ds c.args.memo.now c.args.stack.now.items c.push-in-Some-memo.new.self.items c.args.frame _ d c.len.result c.in-Some.child c.in-Some-memo.number
    c.requires.nested at (omega (arith, c.len.ensures, c.args.frame.numbers.ok)) c.in-Some.ensures c.in_ok-push-2.ensures.items refl c.in_ok-push.ensures.items

pub returns-clause-turn : goal.returns-clause-turn
returns-clause-turn c = let d = sketch_of c.index-sketch-frame.result in let ds = map sketch_of c.args.sketch.now in
    let at = seen_at sketch_of c.args.sketch.now c.args.frame.node c.index-sketch-frame.result c.requires.framed.node c.index-sketch-frame.is in
    let less = child_below ds c.args.frame.node d c.len.result c.in-Some.child c.requires.sketched.ordered at (sym c.in-Some.ensures) in
    turned_down ds c.args.memo.now c.args.stack.now.items c.push-2.new.self.items c.push-3.new.self.items c.args.frame _ _ c.in-Some.child c.requires.nested less
    (index_get c.args.memo.now c.in-Some.child None (omega (arith, less, c.requires.framed.node, c.requires.kept.count)) ∙ ap (λ x. Some x) c.in_default-memo.is)
    c.in_ok-push-3.ensures.items refl c.in_ok-push-4.ensures.items refl c.new.ensures.items

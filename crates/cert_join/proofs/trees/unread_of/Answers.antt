use Rattle.std.proofs.Common.{sym, subst, List, refl, take, ◌+◌}
use Rattle.cert_join.specs.Spot.{Spot}
use Rattle.cert_join.specs.Gathered.{AllReady, AreResized}
use Rattle.cert_join.proofs.Passing.{ready_all, ready_more, ready_none, ready_past, resized_none, resized_read}
use Rattle.cert_join.proofs.trees.unread_of.Goals as goal
use Rattle.cert_join.proofs.trees.unread_of.Goals.{else-part-cursors-via-then-part-cursors+else-not-is_ready, else-part-cursors-via-else-part-cursors}

pub loop-part-init : goal.loop-part-init
loop-part-init c = record { same = resized_none _; ready = ready_none _ }

pub loop-part-preserved : goal.loop-part-preserved
loop-part-preserved c = elim c.else-part-cursors.branch [
  | else-part-cursors-via-then-part-cursors+else-not-is_ready w ↦ record {
    same = let P : List Spot → Type 0 = λ x. AreResized c.args.cursors.now x in subst P (sym w.cursors-is) (resized_read _ _ _ _ _ w.if-part-cursors.true c.loop-part.invariant.same w.is_ready.ensures.same);
    ready = let P : List Spot → Type 0 = λ x. AllReady (take (c.loop-part.part-index + 1) c.args.parts.now) x in subst P (sym w.cursors-is) (ready_more _ _ _ _ _ c.loop-part-test.true refl w.if-part-cursors.true c.loop-part.invariant.ready (w.is_ready.ensures.ready w.if-not-is_ready.false));
  }
  | else-part-cursors-via-else-part-cursors w ↦ record {
    same = let P : List Spot → Type 0 = λ x. AreResized c.args.cursors.now x in subst P (sym w.cursors-is) c.loop-part.invariant.same;
    ready = let P : List Spot → Type 0 = λ x. AllReady (take (c.loop-part.part-index + 1) c.args.parts.now) x in subst P (sym w.cursors-is) (ready_past _ _ _ _ c.loop-part-test.true refl w.if-part-cursors.false c.loop-part.invariant.ready);
  }
]

pub returns-clause-ready : goal.returns-clause-ready
returns-clause-ready c = ready_all _ _ _ c.loop-part-test.false c.loop-part.invariant.ready

use Rattle.std.proofs.Common.{ℕ, List, ◌+◌, ◌<◌, ◌≤◌, ◌∙◌, length, arith, ap, sym, subst, refl}
use Rattle.interval_model.specs.Interval.{Interval}
use Rattle.cover_model.specs.NodeEnclosure.{row}
use Rattle.ival.specs.declared.row_parts.Rows.{Rows}
use Rattle.poly_graph.specs.Views.{node_of}
use Rattle.cover_model.proofs.NodeEnclosures.{comes_at, comes_later, length_enclosures, all_rows, order_at}
use Rattle.ival.proofs.MarkWords.{length_marks}
use Rattle.ival.specs.RowViews.{rows_of, marks_of}
use Rattle.ival.specs.SpaceViews.{space_of}
use Rattle.hc4.proofs.Reaches.{Renewed, passed_by, renewed_at}
use Rattle.hc4.proofs.forward.follow.Goals as goal
use Rattle.hc4.proofs.forward.follow.Goals.{then-is_reached, else-is_reached}

pub loop-place-init : goal.loop-place-init
loop-place-init c = record {
  count = ap length (c.clear_marks.ensures.rows ∙ c.requires.rows.filled) ∙ length_enclosures c.requires.rows.was c.args.graph.now;
  filled = λ k h. absurd (omega arith);
  stays = λ k h m. absurd (omega arith);
  ahead = λ k h. refl;
  down = λ k p h f m c t. absurd (omega arith);
}

pub is_reached-requires-clause-order : goal.is_reached-requires-clause-order
is_reached-requires-clause-order c =
    let n = c.loop-place.place in
    let inside : n ≤ length (rows_of c.loop-place.rows) = omega (arith, c.loop-place-test.true, c.loop-place.invariant.count, c.len-place-end.ensures.len) in
    comes_later n (length (rows_of c.loop-place.rows)) (node_of c.node-node.result) inside (comes_at c.args.graph.now c.len-place-end.ensures.graph.ordered n (node_of c.node-node.result) c.node-node.ensures)

pub renew-requires-clause-order : goal.renew-requires-clause-order
renew-requires-clause-order c =
    let n = c.loop-place.place in
    let inside : n ≤ length (rows_of c.loop-place.rows) = omega (arith, c.loop-place-test.true, c.loop-place.invariant.count, c.len-place-end.ensures.len) in
    comes_later n (length (rows_of c.loop-place.rows)) (node_of c.node-node.result) inside (comes_at c.args.graph.now c.len-place-end.ensures.graph.ordered n (node_of c.node-node.result) c.node-node.ensures)

pub loop-place-preserved : goal.loop-place-preserved
loop-place-preserved c =
    let nodes = c.args.graph.now in let space = space_of c.args.space.now in let n = c.loop-place.place in let es = rows_of c.loop-place.rows in let marks = marks_of c.loop-place.rows in
    let start = rows_of c.clear_marks.new.self in let node = node_of c.node-node.result in
    let inside : n < length es = omega (arith, c.loop-place-test.true, c.loop-place.invariant.count, c.len-place-end.ensures.len) in
    let inside-marks : n < length marks = omega (arith, inside, length_marks c.loop-place.rows) in
    let P : Rows → Type 0 = λ r. Renewed nodes space start (n + 1) (rows_of r) (marks_of r) in
    elim c.if-is_reached.branch [
      | then-is_reached w ↦ subst P (sym w.rows-is)
          (renewed_at nodes space start n es (rows_of w.renew.new.rows) marks (marks_of w.renew.new.rows) node c.len-place-end.ensures.graph.ordered c.node-node.ensures inside inside-marks w.renew.ensures.rows w.renew.ensures.marks c.loop-place.invariant)
      | else-is_reached w ↦ subst P (sym w.rows-is)
          (let calm = w.if-is_reached.ensures refl in
          passed_by nodes c.requires.rows.was space start n es marks node c.len-place-end.ensures.graph.ordered c.node-node.ensures (c.clear_marks.ensures.rows ∙ c.requires.rows.filled) calm.axis calm.children c.loop-place.invariant)
    ]

pub returns-clause-rows : goal.returns-clause-rows
returns-clause-rows c =
    all_rows (space_of c.args.space.now) c.args.graph.now (rows_of c.loop-place.rows) c.loop-place.invariant.count
    (λ k h. c.loop-place.invariant.filled k (omega (arith, c.loop-place-test.false, c.loop-place.auto.place-end, c.len-place-end.ensures.len)))

pub returns-clause-apart : goal.returns-clause-apart
returns-clause-apart c =
    let nodes = c.args.graph.now in let i = c.loop-place.invariant in
    let done : (k : ℕ) → k < length nodes → k < c.loop-place.place = λ k h. omega (arith, c.loop-place-test.false, c.loop-place.auto.place-end, c.len-place-end.ensures.len) in
    record {
      same = λ k h m. ap (λ (xs : List Interval). row xs k) (sym c.clear_marks.ensures.rows) ∙ i.stays k (done k h) m ∙ sym (i.filled k (done k h));
      down = λ k p f m. i.down k p (done k (order_at 0 nodes c.len-place-end.ensures.graph.ordered k p f).1) f m;
    }

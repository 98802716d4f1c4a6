use Rattle.std.proofs.Common.{List, ◌<◌, ◌≤◌, ◌≢◌, ◌∙◌, length, arith, ap, below_more, get_or-set_other, get_or-set_same}
use Rattle.std.proofs.lemmas.List.{length-set}
use Rattle.interval_model.specs.Interval.{Interval, nothing}
use Rattle.cover_model.specs.NodeEnclosure.{row}
use Rattle.poly_graph.specs.Views.{node_of}
use Rattle.cover_model.proofs.NodeEnclosures.{comes_at, comes_later, next_row, all_rows}
use Rattle.ival.specs.Views.{interval_of}
use Rattle.ival.specs.RowViews.{rows_of}
use Rattle.ival.specs.SpaceViews.{space_of}
use Rattle.hc4.proofs.forward.fill.Goals as goal

pub node_interval-interval-requires : goal.node_interval-interval-requires
node_interval-interval-requires c =
    let nodes = c.args.graph.now in let n = c.loop-n.n in
    let inside : n ≤ length (rows_of c.loop-n.rows) = omega (arith, c.loop-n-test.true, c.loop-n.invariant.count, c.len-n-end.ensures.len) in
    comes_later n (length (rows_of c.loop-n.rows)) (node_of c.node.result) inside (comes_at nodes c.len-n-end.ensures.graph.ordered n (node_of c.node.result) c.node.ensures)

pub loop-n-preserved : goal.loop-n-preserved
loop-n-preserved c =
    let nodes = c.args.graph.now in let space = space_of c.args.space.now in let n = c.loop-n.n in let es = rows_of c.loop-n.rows in
    let i = interval_of c.node_interval-interval.result in
    let inside : n < length es = omega (arith, c.loop-n-test.true, c.loop-n.invariant.count, c.len-n-end.ensures.len) in
    record {
      count = ap length c.set.ensures.rows ∙ length-set es n i ∙ c.loop-n.invariant.count;
      filled = below_more _ _
          (λ k h. let other : k ≢ n = omega arith in ap (λ (xs : List Interval). row xs k) c.set.ensures.rows ∙ get_or-set_other es n k i nothing other ∙ c.loop-n.invariant.filled k h)
          (ap (λ (xs : List Interval). row xs n) c.set.ensures.rows ∙ get_or-set_same es n i nothing inside ∙ c.node_interval-interval.ensures
          ∙ next_row space nodes c.len-n-end.ensures.graph.ordered es n (node_of c.node.result) c.node.ensures c.loop-n.invariant.filled);
      marks = c.set.ensures.marks ∙ c.loop-n.invariant.marks;
    }

pub returns-clause-rows : goal.returns-clause-rows
returns-clause-rows c =
    let nodes = c.args.graph.now in
    all_rows (space_of c.args.space.now) nodes (rows_of c.loop-n.rows) c.loop-n.invariant.count
    (λ k h. c.loop-n.invariant.filled k (omega (arith, c.loop-n-test.false, c.loop-n.auto.n-end, c.len-n-end.ensures.len)))

use Rattle.std.proofs.Common.{◌<◌, ◌≤◌, ◌∙◌, length, arith, ap}
use Rattle.std.proofs.lemmas.List.{length-set}
use Rattle.cover_model.specs.Narrowed.{enclosures}
use Rattle.cover_model.specs.NodeEnclosure.{row}
use Rattle.poly_graph.specs.Views.{node_of}
use Rattle.cover_model.proofs.NodeEnclosures.{comes_at, comes_later, next_row}
use Rattle.ival.specs.Views.{interval_of}
use Rattle.ival.specs.RowViews.{rows_of}
use Rattle.ival.specs.SpaceViews.{space_of}
use Rattle.plain_eval.proofs.Filling.{filled_next}
use Rattle.plain_eval.proofs.enclosing.enclose.Goals as goal

pub value-interval-requires : goal.value-interval-requires
value-interval-requires c =
    let n = c.loop-n.n in
    let inside : n ≤ length (rows_of c.loop-n.rows) = omega (arith, c.loop-n-test.true, c.loop-n.invariant.count, c.len-count.ensures.len) in
    comes_later n (length (rows_of c.loop-n.rows)) (node_of c.node.result) inside (comes_at c.args.graph.now c.len-count.ensures.graph.ordered n (node_of c.node.result) c.node.ensures)

pub returns-then-n-node-clause-result : goal.returns-then-n-node-clause-result
returns-then-n-node-clause-result c =
    let nodes = c.args.graph.now in let space = space_of c.args.space.now in
    c.value-interval.ensures
    ∙ next_row space nodes c.len-count.ensures.graph.ordered (rows_of c.loop-n.rows) c.loop-n.n (node_of c.node.result) c.node.ensures c.loop-n.invariant.filled
    ∙ ap (row (enclosures space nodes)) c.if-n-node.true

pub returns-then-n-node-clause-rows : goal.returns-then-n-node-clause-rows
returns-then-n-node-clause-rows c =
    let nodes = c.args.graph.now in let space = space_of c.args.space.now in let n = c.loop-n.n in let es = rows_of c.loop-n.rows in
    let inside : n < length es = omega (arith, c.loop-n-test.true, c.loop-n.invariant.count, c.len-count.ensures.len) in
    let i = interval_of c.value-interval.result in
    λ k h. filled_next space nodes n es (rows_of c.set.new.self) i inside c.set.ensures.rows
    (c.value-interval.ensures ∙ next_row space nodes c.len-count.ensures.graph.ordered es n (node_of c.node.result) c.node.ensures c.loop-n.invariant.filled)
    c.loop-n.invariant.filled k (omega (arith, c.if-n-node.true))

pub loop-n-preserved : goal.loop-n-preserved
loop-n-preserved c =
    let nodes = c.args.graph.now in let space = space_of c.args.space.now in let n = c.loop-n.n in let es = rows_of c.loop-n.rows in
    let inside : n < length es = omega (arith, c.loop-n-test.true, c.loop-n.invariant.count, c.len-count.ensures.len) in
    let i = interval_of c.value-interval.result in
    record {
      count = ap length c.set.ensures.rows ∙ length-set es n i ∙ c.loop-n.invariant.count;
      filled = filled_next space nodes n es (rows_of c.set.new.self) i inside c.set.ensures.rows
          (c.value-interval.ensures ∙ next_row space nodes c.len-count.ensures.graph.ordered es n (node_of c.node.result) c.node.ensures c.loop-n.invariant.filled)
          c.loop-n.invariant.filled;
      ahead = omega (arith, c.loop-n.invariant.ahead, c.if-n-node.false);
      marks = c.set.ensures.marks ∙ c.loop-n.invariant.marks;
    }

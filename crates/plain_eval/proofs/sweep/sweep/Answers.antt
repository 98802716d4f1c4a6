use Rattle.std.proofs.Common.{◌≡◌, ℕ, ◌<◌, ◌≤◌, suc, length, Some, None, ap, sym, ◌∙◌, arith}
use Rattle.interval_model.specs.Interval.{Interval}
use Rattle.cover_model.specs.Combination.{Adjoints}
use Rattle.cover_model.proofs.NodeEnclosures.{comes_at, comes_later}
use Rattle.poly_graph.specs.Views.{node_of}
use Rattle.ival.specs.Views.{interval_of}
use Rattle.ival.specs.RowViews.{rows_of}
use Rattle.ival.specs.Options.{option_at, option_of}
use Rattle.ival.proofs.Optional.{no_option, has_option}
use Rattle.cover_model.proofs.CombinationSquares.{squares_under}
use Rattle.plain_eval.proofs.CombinedSweeps.{sweep_skipped, sweep_next}
use Rattle.plain_eval.proofs.sweep.sweep.Goals as goal

pub with_node-rest-requires-clause-order : goal.with_node-rest-requires-clause-order
with_node-rest-requires-clause-order c = comes_at c.args.graph.now c.len-2.ensures.graph.ordered c.in-Some.n (node_of c.node-node.result) c.node-node.ensures

pub give_children-requires-clause-order : goal.give_children-requires-clause-order
give_children-requires-clause-order c =
    let n = c.in-Some.n in let before = c.loop-n.invariant in
    comes_later n (length c.args.graph.now) (node_of c.node-node.result) (omega (arith, c.in-Some.ensures.below, before.inside))
    (comes_at c.args.graph.now c.len-2.ensures.graph.ordered n (node_of c.node-node.result) c.node-node.ensures)

pub give_square-requires : goal.give_square-requires
give_square-requires c =
    let n = c.in-Some.n in let before = c.loop-n.invariant in record {
      order = comes_later n (length (rows_of c.loop-n.coefficients.square)) (node_of c.node-node.result) (omega (arith, c.in-Some.ensures.below, before.inside, before.count.square))
          (comes_at c.args.graph.now c.len-2.ensures.graph.ordered n (node_of c.node-node.result) c.node-node.ensures);
    }

pub loop-n-preserved : goal.loop-n-preserved
loop-n-preserved c =
    let next = c.in-Some.ensures in let n = c.in-Some.n in let p = c.loop-n.place in let nodes = c.args.graph.now in
    let es = rows_of c.args.rows.now in let cs = rows_of c.args.centre_rows.now in let before = c.loop-n.invariant in
    let linear = c.loop-n.coefficients.linear in let square = c.loop-n.coefficients.square in
    let os = option_at linear in let qs = option_at square in
    let w = interval_of c.get-linear.result in let node = node_of c.node-node.result in let rest = interval_of c.loop-n.rest in
    let order = comes_at nodes c.len-2.ensures.graph.ordered n node c.node-node.ensures in
    let none : (k : ℕ) → suc n ≤ k → k < p → os k ≡ None = λ k a b. no_option linear k (next.between k (omega (arith, a)) b) in
    let here : os n ≡ Some w = has_option linear n next.marked ∙ ap (λ (i : Interval). Some i) (sym c.get-linear.ensures) in
    record {
      inside = omega (arith, before.inside, next.below);
      count = record { linear = c.give_children.ensures.count; square = c.give_square.ensures.count ∙ before.count.square };
      under = λ k h. ap (λ (f : Adjoints). f k) c.give_square.ensures.all ∙ squares_under nodes cs w node os qs before.under k (sym (ap (λ (f : Adjoints). f k) c.give_children.ensures.all) ∙ h);
      same = before.same
          ∙ sweep_skipped nodes es cs p (suc n) os qs rest (omega (arith, next.below)) before.inside before.under none
          ∙ sweep_next nodes es cs n w rest (interval_of c.with_node-rest.result) (option_of c.entry-square.result) node os qs (option_at c.give_children.new.linear) (option_at c.give_square.new.square)
          c.node-node.ensures order here (sym c.entry-square.ensures) c.give_children.ensures.all c.give_square.ensures.all c.with_node-rest.ensures;
    }

pub returns-clause-expansion : goal.returns-clause-expansion
returns-clause-expansion c =
    let nodes = c.args.graph.now in let es = rows_of c.args.rows.now in let cs = rows_of c.args.centre_rows.now in let p = c.loop-n.place in
    let linear = c.loop-n.coefficients.linear in let before = c.loop-n.invariant in
    before.same ∙ sweep_skipped nodes es cs p 0 (option_at linear) (option_at c.loop-n.coefficients.square) (interval_of c.loop-n.rest) (omega arith) before.inside before.under
    (λ k a b. no_option linear k (c.in_default.ensures k b))

use Rattle.std.proofs.Common.{◌≡◌, ℕ, ◌<◌, ◌≤◌, ◌-◌, suc, length, Option, Some, None, ap, sym, ◌∙◌, arith}
use Rattle.interval_model.specs.Interval.{Interval}
use Rattle.cover_model.specs.Combination.{expanded}
use Rattle.cover_model.proofs.CombinationSkipped.{skipped}
use Rattle.cover_model.proofs.CombinationSquares.{squares_under}
use Rattle.cover_model.proofs.NodeEnclosures.{comes_at, comes_later}
use Rattle.poly_graph.specs.Views.{node_of}
use Rattle.ival.specs.Views.{interval_of}
use Rattle.ival.specs.RowViews.{rows_of}
use Rattle.ival.specs.Options.{option_at}
use Rattle.ival.proofs.Optional.{no_option, has_option}
use Rattle.combine.specs.Parts.{expansion_of}
use Rattle.combine.proofs.Sweeping.{visited, needed_here}
use Rattle.combine.proofs.sweep.sweep.Goals as goal

pub hand_down-requires-clause-order : goal.hand_down-requires-clause-order
hand_down-requires-clause-order c =
    let n = c.in-Some.n in
    comes_later n (length c.args.graph.now) (node_of c.node-node.result) (omega (arith, c.in-Some.ensures.below, c.loop-n.invariant.inside))
    (comes_at c.args.graph.now c.len-2.ensures.graph.ordered n (node_of c.node-node.result) c.node-node.ensures)

pub hand_square-requires : goal.hand_square-requires
hand_square-requires c =
    let n = c.in-Some.n in record {
      order = comes_later n (length (rows_of c.loop-n.squares)) (node_of c.node-node.result) (omega (arith, c.in-Some.ensures.below, c.loop-n.invariant.inside, c.loop-n.invariant.squares))
          (comes_at c.args.graph.now c.len-2.ensures.graph.ordered n (node_of c.node-node.result) c.node-node.ensures);
    }

pub expand-requires-clause-order : goal.expand-requires-clause-order
expand-requires-clause-order c = comes_at c.args.graph.now c.len-2.ensures.graph.ordered c.in-Some.n (node_of c.node-node.result) c.node-node.ensures

pub expand-requires-clause-room : goal.expand-requires-clause-room
expand-requires-clause-room c =
    omega (arith, c.loop-n.invariant.needed, needed_here c.args.graph.now c.in-Some.n c.loop-n.place (node_of c.node-node.result) c.in-Some.ensures.below c.node-node.ensures)

pub loop-n-preserved : goal.loop-n-preserved
loop-n-preserved c =
    let next = c.in-Some.ensures in let n = c.in-Some.n in let p = c.loop-n.place in let nodes = c.args.graph.now in
    let es = rows_of c.args.enclosures.now.rows.now in let cs = rows_of c.args.enclosures.now.centre_rows.now in
    let before = c.loop-n.invariant in let adjoints = c.loop-n.adjoints in let squares = c.loop-n.squares in
    let w = interval_of c.get-linear.result in let node = node_of c.node-node.result in let e = expansion_of c.loop-n.gathered in
    let none : (k : ℕ) → suc n ≤ k → k < p → option_at adjoints k ≡ None = λ k a b. no_option adjoints k (next.between k (omega arith) b) in
    let here : option_at adjoints n ≡ Some w = has_option adjoints n next.marked ∙ ap (λ (i : Interval). Some i) (sym c.get-linear.ensures) in
    record {
      inside = omega (arith, before.inside, next.below);
      adjoints = c.hand_down.ensures.count;
      squares = c.hand_square.ensures.count ∙ before.squares;
      under = λ k h. c.hand_square.ensures.all k ∙ squares_under nodes cs w node (option_at adjoints) (option_at squares) before.under k (sym (c.hand_down.ensures.all k) ∙ h);
      needed = omega (arith, before.needed, c.expand.ensures.first, needed_here nodes n p node next.below c.node-node.ensures);
      measured = c.expand.ensures.measured;
      room = c.expand.ensures.room ∙ before.room;
      same = before.same ∙ skipped nodes es cs (p - suc n) p (suc n) (option_at adjoints) (option_at squares) e (omega (arith, next.below)) none (λ k a b. before.under k (none k a b))
          ∙ visited nodes es cs n w node (option_at adjoints) (option_at squares) (option_at c.hand_down.new.adjoints) (option_at c.hand_square.new.squares) e (expansion_of c.expand.new.gathered)
          here c.node-node.ensures c.hand_down.ensures.all c.hand_square.ensures.all
          (c.expand.ensures.expansion ∙ ap (λ (q : Option Interval). expanded es cs n (Some w) q node e) c.standing-square.ensures);
    }

pub returns-clause-expansion : goal.returns-clause-expansion
returns-clause-expansion c =
    let nodes = c.args.graph.now in let es = rows_of c.args.enclosures.now.rows.now in let cs = rows_of c.args.enclosures.now.centre_rows.now in let p = c.loop-n.place in
    let none : (k : ℕ) → 0 ≤ k → k < p → option_at c.loop-n.adjoints k ≡ None = λ k a b. no_option c.loop-n.adjoints k (c.in_default.ensures k b) in
    sym (c.loop-n.invariant.same ∙ skipped nodes es cs p p 0 (option_at c.loop-n.adjoints) (option_at c.loop-n.squares) (expansion_of c.loop-n.gathered) (omega arith) none (λ k a b. c.loop-n.invariant.under k (none k a b)))

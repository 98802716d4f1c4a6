use Rattle.std.proofs.Common.{◌≡◌, ℕ, ◌≤◌, length, Some, None, ap, sym, ◌∙◌, arith}
use Rattle.interval_model.specs.Interval.{Interval}
use Rattle.poly_graph.specs.Views.{node_of}
use Rattle.cover_model.proofs.NodeEnclosures.{comes_at, comes_later}
use Rattle.ival.specs.Views.{interval_of}
use Rattle.ival.specs.RowViews.{rows_of}
use Rattle.ival.specs.Options.{option_at}
use Rattle.ival.proofs.Optional.{no_option, has_option}
use Rattle.plain_eval.specs.Leaving.{left_more, left_more_by}
use Rattle.ival.proofs.Facts.{rows_proper}
use Rattle.plain_eval.proofs.Sweeping.{start, left_by_node, swept_next, swept_all}
use Rattle.plain_eval.proofs.subterms.narrow_rows.Goals as goal

pub loop-n-init : goal.loop-n-init
loop-n-init c =
    let nodes = c.args.graph.now in let es = rows_of c.args.rows.now in let root = c.args.root in let range = interval_of c.args.range in
    let cleared = c.clear_marks.new.self in let new = c.leave.new.scratch in
    let none : (k : ℕ) → option_at cleared k ≡ None = λ k. no_option cleared k (c.clear_marks.ensures.marks k) in
    record {
      count = c.leave.ensures.count ∙ ap length c.clear_marks.ensures.rows ∙ c.requires.scratch;
      swept = start nodes es root range new c.requires.root (c.leave.ensures.at ∙ ap (left_more es root range) (none root)) (λ k o. c.leave.ensures.others k o ∙ none k);
    }

pub leave_to_children-requires-clause-order : goal.leave_to_children-requires-clause-order
leave_to_children-requires-clause-order c =
    let n = c.in-Some.n in let nodes = c.args.graph.now in let node = node_of c.node-node.result in
    let low : n ≤ length (rows_of c.args.rows.now) = omega (arith, c.in-Some.ensures.below, c.loop-n.invariant.swept.bound, c.requires.root, c.requires.rows) in
    comes_later n (length (rows_of c.args.rows.now)) node low (comes_at nodes c.len-2.ensures.graph.ordered n node c.node-node.ensures)

pub loop-n-preserved : goal.loop-n-preserved
loop-n-preserved c =
    let next = c.in-Some.ensures in let scratch = c.loop-n.scratch in let n = c.in-Some.n in
    let here : option_at scratch n ≡ Some (interval_of c.get.result) = has_option scratch n next.marked ∙ ap (λ (i : Interval). Some i) (sym c.get.ensures) in
    let nodes = c.args.graph.now in let es = rows_of c.args.rows.now in let node = node_of c.node-node.result in let i = interval_of c.get.result in
    let ordered = c.len-2.ensures.graph.ordered in let new = c.leave_to_children.new.scratch in
    let all : (s : ℕ) → option_at new s ≡ left_more_by es s node i (option_at scratch s) = λ s.
    left_by_node nodes es c.args.root (interval_of c.args.range) c.requires.enclosures.space ordered c.requires.enclosures.filled (rows_proper c.args.rows.now) c.loop-n.place n scratch node i
    c.loop-n.invariant.swept next.below c.node-node.ensures s (option_at new s) (c.leave_to_children.ensures.all s) in
    record {
      count = c.leave_to_children.ensures.count ∙ c.loop-n.invariant.count;
      swept = swept_next c.args.graph.now (rows_of c.args.rows.now) c.args.root (interval_of c.args.range) c.len-2.ensures.graph.ordered c.loop-n.place n scratch c.leave_to_children.new.scratch
          (node_of c.node-node.result) (interval_of c.get.result) c.requires.root c.loop-n.invariant.swept next.below (λ k a b. no_option scratch k (next.between k a b)) c.node-node.ensures here all;
    }

pub returns-clause-options : goal.returns-clause-options
returns-clause-options c =
    let scratch = c.loop-n.scratch in
    swept_all c.args.graph.now (rows_of c.args.rows.now) c.args.root (interval_of c.args.range) c.loop-n.place scratch c.requires.root c.loop-n.invariant.count c.loop-n.invariant.swept
    (λ k h. no_option scratch k (c.in_default.ensures k h))

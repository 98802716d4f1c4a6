use Rattle.std.proofs.Common.{◌≡◌, ℕ, length, Some, None, ap, sym, ◌∙◌}
use Rattle.interval_model.specs.Interval.{Interval, nothing}
use Rattle.cover_model.specs.Narrowed.{narrowed}
use Rattle.poly_graph.specs.Views.{node_of}
use Rattle.cover_model.proofs.NodeEnclosures.{comes_at}
use Rattle.ival.specs.Views.{interval_of}
use Rattle.ival.specs.RowViews.{rows_of}
use Rattle.ival.specs.Options.{option_at}
use Rattle.ival.proofs.Optional.{no_option, has_option}
use Rattle.hc4.specs.Pushed.{pushed}
use Rattle.hc4.proofs.Sweeping.{start, found, swept_next, swept_all, empty_at, is_empty}
use Rattle.ival.proofs.Facts.{rows_proper}
use Rattle.hc4.proofs.sweep.sweep.Goals as goal

pub loop-n-init : goal.loop-n-init
loop-n-init c =
    let nodes = c.args.graph.now in let es = rows_of c.args.rows.now in let root = c.args.root in let range = interval_of c.args.range in
    let cleared = c.clear_marks.new.self in let new = c.push_to.new.scratch in
    let none : (k : ℕ) → option_at cleared k ≡ None = λ k. no_option cleared k (c.clear_marks.ensures.marks k) in
    record {
      count = c.push_to.ensures.count ∙ ap length c.clear_marks.ensures.rows ∙ c.requires.scratch;
      swept = start nodes es root range new c.requires.root (c.push_to.ensures.at ∙ ap (pushed es root range) (none root)) (λ k o. c.push_to.ensures.others k o ∙ none k);
    }

pub visit-requires-clause-order : goal.visit-requires-clause-order
visit-requires-clause-order c = comes_at c.args.graph.now c.len-2.ensures.graph.ordered c.in-Some.n (node_of c.node.result) c.node.ensures

pub loop-n-preserved : goal.loop-n-preserved
loop-n-preserved c =
    let next = c.in-Some.ensures in let scratch = c.loop-n.scratch in
    let here : option_at scratch c.in-Some.n ≡ Some (interval_of c.get-narrowed.result) =
    has_option scratch c.in-Some.n next.marked ∙ ap (λ (i : Interval). Some i) (sym c.get-narrowed.ensures) in
    record {
      count = c.visit.ensures.count ∙ c.loop-n.invariant.count;
      swept = swept_next c.requires.enclosures.was c.args.graph.now (rows_of c.args.rows.now) c.args.root (interval_of c.args.range)
          c.len-2.ensures.graph.ordered c.requires.enclosures.filled (rows_proper c.args.rows.now) c.loop-n.place c.in-Some.n scratch c.visit.new.scratch
          (node_of c.node.result) (interval_of c.get-narrowed.result) c.requires.root c.loop-n.invariant.swept next.below (λ k a b. no_option scratch k (next.between k a b))
          c.node.ensures here (sym c.if-is_empty.ensures) c.visit.ensures.below c.visit.ensures.at c.visit.ensures.above;
    }

pub returns-then-is_empty : goal.returns-then-is_empty
returns-then-is_empty c =
    let nodes = c.args.graph.now in let es = rows_of c.args.rows.now in let root = c.args.root in let range = interval_of c.args.range in
    let next = c.in-Some.ensures in let n = c.in-Some.n in let scratch = c.loop-n.scratch in
    let here : option_at scratch n ≡ Some (interval_of c.get-narrowed.result) = has_option scratch n next.marked ∙ ap (λ (i : Interval). Some i) (sym c.get-narrowed.ensures) in
    let empty = is_empty (interval_of c.get-narrowed.result) (sym c.if-is_empty.ensures) in
    record {
      none = λ e. empty_at (narrowed nodes es root range) n (found c.requires.enclosures.was nodes es root range c.len-2.ensures.graph.ordered c.requires.enclosures.filled (rows_proper c.args.rows.now) c.loop-n.place n scratch nothing c.requires.root c.loop-n.invariant.swept next.below
          (λ k a b. no_option scratch k (next.between k a b)) (here ∙ ap (λ (i : Interval). Some i) empty));
      some = λ e. cc;
      variables = λ e. cc;
      count = c.loop-n.invariant.count;
    }

pub returns : goal.returns
returns c =
    let scratch = c.loop-n.scratch in
    let all = swept_all c.requires.enclosures.was c.args.graph.now (rows_of c.args.rows.now) c.args.root (interval_of c.args.range) c.len-2.ensures.graph.ordered c.requires.enclosures.filled (rows_proper c.args.rows.now) c.loop-n.place scratch c.requires.root c.loop-n.invariant.swept
    (λ k h. no_option scratch k (c.in_default.ensures k h)) in
    record { none = λ e. cc; some = λ e. all.1; variables = λ e. all.0; count = c.loop-n.invariant.count }

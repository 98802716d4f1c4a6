use Rattle.std.proofs.Common.{arith, ◌-◌, ◌<◌, suc, length, map, subst, sym, ap, ◌∙◌, replicate}
use Rattle.declared_box.specs.Table.{all_of}
use Rattle.declared_box.specs.Interval.{no_interval}
use Rattle.declared_box.specs.Sweep.{marks_after, intervals_after}
use Rattle.declared_box.specs.Views.{node_of, interval_of}
use Rattle.declared_box.proofs.Tables.{as_many, node_at, comes_after_more}
use Rattle.declared_box.proofs.Sweeps.{Swept, passed_by, read_mark, swept_down_to, started, started_length, written, finished}
use Rattle.declared_box.proofs.sweep.tightest.Goals as goal

pub marks_at-requires : goal.marks_at-requires
marks_at-requires c = λ k d l. omega (arith, c.requires k d l, as_many c.nodes-nodes.result.now c.args.table.now c.nodes-nodes.ensures.lists)

pub loop-n-init : goal.loop-n-init
loop-n-init c = let count = length c.nodes-nodes.result.now in let t = c.args.table.now in let roots = c.args.roots.now in (
  started_length c.in_ok-marks.marks.items roots count c.in_ok-marks.ensures,
  subst (λ is. Swept t (all_of t roots) c.args.axes count c.in_ok-marks.marks.items is) (sym c.in_ok-intervals.ensures)
      (subst (λ ms. Swept t (all_of t roots) c.args.axes count ms (replicate c.args.axes no_interval)) (sym c.in_ok-marks.ensures) (started t roots c.args.axes count (λ k d l. omega (arith, c.requires k d l, as_many c.nodes-nodes.result.now t c.nodes-nodes.ensures.lists)))),
)

pub visit-requires : goal.visit-requires
visit-requires c = let n = c.loop-n.n - 1 in comes_after_more n (length c.deref_mut.result.now) (node_of c.index-nodes-n.result) (omega (arith, c.loop-n.invariant.0, c.deref_mut.ensures.len, c.loop-n.auto.n, c.loop-n-test.true, c.loop-n.marks.ok.0))
    (node_at c.nodes-nodes.result.now c.args.table.now c.nodes-nodes.ensures.lists c.nodes-nodes.ensures.order n c.index-nodes-n.result (omega (arith, c.loop-n.auto.n, c.loop-n-test.true)) c.index-nodes-n.is).1

pub loop-n-preserved-then-index : goal.loop-n-preserved-then-index
loop-n-preserved-then-index c = let n = c.loop-n.n - 1 in let t = c.args.table.now in
    let below : n < length c.loop-n.marks.items = omega (arith, c.loop-n.invariant.0, c.loop-n.auto.n, c.loop-n-test.true) in
    written t (all_of t c.args.roots.now) c.args.axes n (length c.nodes-nodes.result.now) c.loop-n.marks.len c.loop-n.intervals.len c.index-nodes-n.result
    c.loop-n.marks.items c.visit.new.marks c.loop-n.intervals.items c.visit.new.intervals
    (swept_down_to t (all_of t c.args.roots.now) c.args.axes c.loop-n.n (suc n) c.loop-n.marks.items (map interval_of c.loop-n.intervals.items) (omega (arith, c.loop-n-test.true)) c.loop-n.invariant.1)
    (node_at c.nodes-nodes.result.now t c.nodes-nodes.ensures.lists c.nodes-nodes.ensures.order n c.index-nodes-n.result (omega (arith, c.loop-n.auto.n, c.loop-n-test.true)) c.index-nodes-n.is)
    below (read_mark c.loop-n.marks.items n c.index.result.now _ below c.index.ensures c.if-index.true) c.loop-n.invariant.0
    (omega (arith, c.loop-n.marks.ok.0)) (omega (arith, c.loop-n.intervals.ok.0))
    (c.visit.ensures.marks ∙ ap (λ ms. marks_after (node_of c.index-nodes-n.result) ms) c.deref_mut.ensures.value)
    (c.visit.ensures.intervals ∙ ap (λ is. intervals_after (node_of c.index-nodes-n.result) (map interval_of is)) c.deref_mut-then-index.ensures.value)

pub loop-n-preserved : goal.loop-n-preserved
loop-n-preserved c = let n = c.loop-n.n - 1 in let t = c.args.table.now in
    let below : n < length c.loop-n.marks.items = omega (arith, c.loop-n.invariant.0, c.loop-n.auto.n, c.loop-n-test.true) in (
      c.loop-n.invariant.0,
      passed_by t (all_of t c.args.roots.now) c.args.axes n c.loop-n.marks.items (map interval_of c.loop-n.intervals.items)
          (swept_down_to t (all_of t c.args.roots.now) c.args.axes c.loop-n.n (suc n) c.loop-n.marks.items (map interval_of c.loop-n.intervals.items) (omega (arith, c.loop-n-test.true)) c.loop-n.invariant.1)
          (read_mark c.loop-n.marks.items n c.index.result.now _ below c.index.ensures c.if-index.false),
    )

pub returns : goal.returns
returns c = let t = c.args.table.now in finished t (all_of t c.args.roots.now) c.args.axes c.loop-n.marks.items (map interval_of c.loop-n.intervals.items)
    (swept_down_to t (all_of t c.args.roots.now) c.args.axes c.loop-n.n 0 c.loop-n.marks.items (map interval_of c.loop-n.intervals.items) (omega (arith, c.loop-n-test.false)) c.loop-n.invariant.1)

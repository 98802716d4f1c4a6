use Rattle.std.proofs.Common.{◌≡◌, ◌+◌, ◌-◌, ◌<◌, ◌∙◌, length, drop, Some, ap, sym, arith, refl}
use Rattle.interval_model.specs.Interval.{Interval}
use Rattle.cover_model.specs.Narrowed.{with_axes}
use Rattle.cover_model.specs.AxisStep.{axis_step}
use Rattle.poly_graph.specs.Views.{node_of}
use Rattle.cover_model.proofs.Axes.{axes_next, axes_back}
use Rattle.ival.specs.Views.{interval_of}
use Rattle.ival.specs.SpaceViews.{space_of}
use Rattle.ival.specs.Options.{options_of, option_at}
use Rattle.ival.proofs.Optional.{length_options, no_option, has_option}
use Rattle.hc4.proofs.Skipped.{axes_skip}
use Rattle.hc4.proofs.axes.narrow_axes.Goals as goal

pub loop-n-preserved-then-narrow_axis : goal.loop-n-preserved-then-narrow_axis
loop-n-preserved-then-narrow_axis c =
    let next = c.in-Some.ensures in
    let n = c.in-Some.n in let p = c.loop-n.place in let nodes = c.args.graph.now in let r = c.args.scratch.now in let opts = options_of r in let start = space_of c.args.space.now in
    let space = space_of c.loop-n.space in let node = node_of c.node.result in let i = interval_of c.get.result in
    let count : length opts ≡ length nodes = length_options r ∙ c.requires in
    let inside : n < length opts = omega (arith, count, c.loop-n.invariant.inside, next.below) in
    let axes : space ≡ with_axes (drop (n + 1) nodes) (drop (n + 1) opts) start =
    c.loop-n.invariant.axes ∙ axes_skip nodes opts start (p - (n + 1)) p (n + 1) (omega (arith, next.below)) c.loop-n.invariant.inside count (λ k a b. no_option r k (next.between k (omega arith) b)) in
    let here : Some i ≡ option_at r n = ap (λ (x : Interval). Some x) c.get.ensures ∙ sym (has_option r n next.marked) in
    record {
      inside = omega (arith, c.loop-n.invariant.inside, next.below);
      axes = c.narrow_axis.ensures.axes ∙ ap (axis_step node (Some i)) axes ∙ axes_next nodes opts start n node (Some i) c.node.ensures inside here;
      same = λ e. cc;
      less = λ t e. c.if-narrow_axis.ensures.less refl
          (c.narrow_axis.ensures.axes ∙ axes_back nodes c.len-place.ensures.graph.once (drop (n + 1) opts) start n node (Some i) space c.node.ensures axes (sym c.narrow_axis.ensures.axes ∙ e));
    }

pub loop-n-preserved : goal.loop-n-preserved
loop-n-preserved c =
    let next = c.in-Some.ensures in
    let n = c.in-Some.n in let p = c.loop-n.place in let nodes = c.args.graph.now in let r = c.args.scratch.now in let opts = options_of r in let start = space_of c.args.space.now in
    let space = space_of c.loop-n.space in let node = node_of c.node.result in let i = interval_of c.get.result in
    let count : length opts ≡ length nodes = length_options r ∙ c.requires in
    let inside : n < length opts = omega (arith, count, c.loop-n.invariant.inside, next.below) in
    let axes : space ≡ with_axes (drop (n + 1) nodes) (drop (n + 1) opts) start =
    c.loop-n.invariant.axes ∙ axes_skip nodes opts start (p - (n + 1)) p (n + 1) (omega (arith, next.below)) c.loop-n.invariant.inside count (λ k a b. no_option r k (next.between k (omega arith) b)) in
    let here : Some i ≡ option_at r n = ap (λ (x : Interval). Some x) c.get.ensures ∙ sym (has_option r n next.marked) in
    record {
      inside = omega (arith, c.loop-n.invariant.inside, next.below);
      axes = c.narrow_axis.ensures.axes ∙ ap (axis_step node (Some i)) axes ∙ axes_next nodes opts start n node (Some i) c.node.ensures inside here;
      same = λ e. c.if-narrow_axis.ensures.same refl ∙ c.loop-n.invariant.same e;
      less = λ t e. c.loop-n.invariant.less t (sym (c.if-narrow_axis.ensures.same refl) ∙ e);
    }

pub returns-clause-axes : goal.returns-clause-axes
returns-clause-axes c =
    let p = c.loop-n.place in let nodes = c.args.graph.now in let r = c.args.scratch.now in let opts = options_of r in let start = space_of c.args.space.now in
    let count : length opts ≡ length nodes = length_options r ∙ c.requires in
    c.loop-n.invariant.axes ∙ axes_skip nodes opts start p p 0 (omega arith) c.loop-n.invariant.inside count (λ k a b. no_option r k (c.in_default.ensures k b))

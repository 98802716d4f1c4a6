use Rattle.std.proofs.Common.{◌<◌, ◌≢◌, ◌≡◌, ◌∙◌, List, length, map, arith, ap, below_more, get_or-set_other, get_or-set_same}
use Rattle.std.proofs.lemmas.List.{length-map, length-set, map-set}
use Rattle.dyadic.specs.Rounding.{Ext, above_all}
use Rattle.dyadic.specs.Views.{ext_of}
use Rattle.poly_graph.specs.Views.{node_of}
use Rattle.cover_model.proofs.NodeEnclosures.{comes_at, length_enclosures}
use Rattle.ival.specs.RowViews.{rows_of}
use Rattle.ival.specs.SpaceViews.{space_of}
use Rattle.width_plan.specs.NodeWidth.{width_at}
use Rattle.width_plan.proofs.Fills.{next_width, all_widths}
use Rattle.width_plan.proofs.widths.fill_widths.Goals as goal

pub node_width-requires-clause-order : goal.node_width-requires-clause-order
node_width-requires-clause-order c = comes_at c.args.graph.now c.len-place-end.ensures.graph.ordered c.loop-place.place (node_of c.node.result) c.node.ensures

pub node_width-requires-clause-place : goal.node_width-requires-clause-place
node_width-requires-clause-place c =
    let rows : length (rows_of c.args.rows.now) ≡ length c.args.graph.now = ap length c.requires.rows ∙ length_enclosures (space_of c.args._root.now) c.args.graph.now in
    omega (arith, c.loop-place-test.true, c.len-place-end.ensures.len, rows)

pub loop-place-preserved : goal.loop-place-preserved
loop-place-preserved c =
    let nodes = c.args.graph.now in let box = space_of c.args._root.now in let n = c.loop-place.place in
    let ws = map ext_of c.loop-place.widths in let w = c.node_width.result in
    let written = map-set ext_of c.loop-place.widths n w in
    let inside : n < length ws = omega (arith, c.loop-place-test.true, c.loop-place.invariant.count, c.len-place-end.ensures.len, length-map c.loop-place.widths ext_of) in
    record {
      count = length-set c.loop-place.widths n w ∙ c.loop-place.invariant.count;
      filled = below_more _ _
          (λ k h. let other : k ≢ n = omega arith in ap (λ (xs : List Ext). width_at xs k) written ∙ get_or-set_other ws n k (ext_of w) above_all other ∙ c.loop-place.invariant.filled k h)
          (ap (λ (xs : List Ext). width_at xs n) written ∙ get_or-set_same ws n (ext_of w) above_all inside ∙ c.node_width.ensures
          ∙ next_width box c.args.bits nodes c.len-place-end.ensures.graph.ordered (rows_of c.args.rows.now) c.requires.rows ws n (node_of c.node.result) c.node.ensures c.loop-place.invariant.filled);
    }

pub returns : goal.returns
returns c =
    all_widths (space_of c.args._root.now) c.args.bits c.args.graph.now (map ext_of c.loop-place.widths) (length-map c.loop-place.widths ext_of ∙ c.loop-place.invariant.count)
    (λ k h. c.loop-place.invariant.filled k (omega (arith, c.loop-place-test.false, c.loop-place.auto.place-end, c.len-place-end.ensures.len)))

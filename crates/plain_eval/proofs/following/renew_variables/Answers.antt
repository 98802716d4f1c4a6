use Rattle.std.proofs.Common.{ℕ, ◌∙◌, List, length, get_or, ap, sym, subst, refl}
use Rattle.poly_graph.specs.Views.{node_of}
use Rattle.cover_model.proofs.NodeEnclosures.{length_enclosures}
use Rattle.ival.specs.SpaceViews.{space_of}
use Rattle.plain_eval.specs.Upward.{AreVariables}
use Rattle.plain_eval.proofs.Upwards.{starting, starting_next, begun, renewed_kept}
use Rattle.plain_eval.proofs.following.renew_variables.Goals as goal

pub prove_eq-unreachable-requires : goal.prove_eq-unreachable-requires
prove_eq-unreachable-requires c =
    let e = ap length c.requires.rows.filled in c.if-prove_eq.true (c.len.ensures ∙ e ∙ length_enclosures c.requires.rows.space c.args.graph.now ∙ sym c.len-2.ensures.len)

pub loop-v-init : goal.loop-v-init
loop-v-init c = record {
  climb = λ ordered. starting c.args.graph.now ordered (space_of c.args.space.now) c.requires.rows.space c.deref-v-items.result.now c.args.rows.now c.requires.rows.filled;
  kept = λ k h. refl;
}

pub renew-requires-clause-count : goal.renew-requires-clause-count
renew-requires-clause-count c = (c.loop-v.invariant.climb c.len-2.ensures.graph.ordered).count

pub loop-v-preserved : goal.loop-v-preserved
loop-v-preserved c =
    let nodes = c.args.graph.now in let vs = c.deref-v-items.result.now in let i = c.loop-v.v-index in let n : ℕ = get_or vs i 0 in let node = node_of c.node.result in
    let old = c.loop-v.rows in let new = c.renew.new.rows in
    let count = (c.loop-v.invariant.climb c.len-2.ensures.graph.ordered).count in
    record {
      climb = λ ordered. starting_next nodes ordered (space_of c.args.space.now) vs i n node old new (c.loop-v.invariant.climb ordered) refl c.node.ensures c.renew.ensures;
      kept = renewed_kept nodes c.len-2.ensures.graph.ordered (space_of c.args.space.now) n node c.node.ensures old new count c.renew.ensures c.args.rows.now c.loop-v.invariant.kept;
    }

pub returns : goal.returns
returns c = record {
  begun =
      let vs = c.deref-v-items.result.now in let ordered = c.len-2.ensures.graph.ordered in
      begun c.args.graph.now ordered (space_of c.args.space.now) vs c.loop-v.v-index c.loop-v.rows
      (subst (λ (xs : List ℕ). AreVariables c.args.graph.now (length c.args.graph.now) xs) (sym c.deref-v-items.ensures.value) c.requires.upward.variables) c.loop-v-test.false (c.loop-v.invariant.climb ordered);
  kept = c.loop-v.invariant.kept;
}

use Rattle.std.proofs.Common.{ℕ, ◌<◌, ◌∙◌, length, arith, ap, sym, subst, IsTrue, Bool, List, false}
use Rattle.std.proofs.lemmas.List.{get_or_default}
use Rattle.std.specs.Prelude.{slice_get}
use Rattle.poly_graph.specs.FormGraph.{FormNode, forms_in_order, form_at, graph_forms}
use Rattle.poly_graph.specs.FormViews.{form_node_of}
use Rattle.cover_model.specs.Honest.{all_in_yes, conjuncts}
use Rattle.cover_model.specs.State.{state_of}
use Rattle.form_truth.specs.Conjuncts.{node_in_yes}
use Rattle.form_truth.proofs.FormTruth.{form_comes_later, form_comes_at}
use Rattle.form_truth.proofs.InYes.{in_yes_next}
use Rattle.form_truth.proofs.conjuncts.conjuncts_in_yes.Goals as goal

pub is_node_in_yes-holds-requires : goal.is_node_in_yes-holds-requires
is_node_in_yes-holds-requires c =
    let n = c.loop-n.n in let node = form_node_of c.node-node.result.now in
    let here = form_comes_at c.forms-forms.result.now c.len-n-end.ensures.graph.ordered n node c.node-node.ensures in
    form_comes_later n (length c.deref.result.now) node (omega (arith, c.loop-n-test.true, c.loop-n.invariant.count, c.len-n-end.ensures.len, c.deref.ensures.len, ap length c.forms-forms.ensures.forms)) here

pub loop-n-preserved : goal.loop-n-preserved
loop-n-preserved c =
    let p = c.args.problem.now in let n = c.loop-n.n in let node = form_node_of c.node-node.result.now in let truths = c.loop-n.marks.truths.items in
    let e = ap (λ (ns : List FormNode). slice_get ns n) (sym c.forms-forms.ensures.forms) ∙ c.node-node.ensures in
    let o = subst (λ (ns : List FormNode). IsTrue (forms_in_order 0 ns)) c.forms-forms.ensures.forms c.len-n-end.ensures.graph.ordered in
    let inside : n < length truths = omega (arith, c.loop-n-test.true, c.loop-n.invariant.count, c.len-n-end.ensures.len, ap length c.forms-forms.ensures.forms) in
    record {
      count = c.loop-n.invariant.count;
      filled = λ space. in_yes_next (state_of space c.args.lits.now) p.forms o truths n node c.is_node_in_yes-holds.result e inside (c.is_node_in_yes-holds.ensures ∙ ap (λ (ts : List Bool). node_in_yes c.args.lits.now ts node) c.deref.ensures.value) (c.loop-n.invariant.filled space);
    }

pub returns-clause-truth : goal.returns-clause-truth
returns-clause-truth c = λ space.
    let p = c.args.problem.now in let truths = c.loop-n.marks.truths.items in let root = c.root.result in
    let whole = c.forms-forms.ensures.whole in
    let below : root < c.loop-n.n = omega (arith, c.root.ensures.root, whole.root, c.loop-n-test.false, c.len-n-end.ensures.len, ap length c.forms-forms.ensures.forms) in
    let inside : root < length truths = omega (arith, c.root.ensures.root, whole.root, c.loop-n.invariant.count) in
    c.index.ensures ∙ get_or_default truths root c.index.result.now false inside ∙ c.loop-n.invariant.filled space root below
    ∙ ap (λ (k : ℕ). all_in_yes (state_of space c.args.lits.now) (conjuncts (form_at (graph_forms p.forms) k))) c.root.ensures.root

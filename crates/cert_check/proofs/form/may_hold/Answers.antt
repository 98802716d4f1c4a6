use Rattle.std.proofs.Common.{ℕ, ◌<◌, ◌∙◌, length, arith, ap, sym, subst, IsTrue, Bool, List, false}
use Rattle.std.proofs.lemmas.List.{get_or_default}
use Rattle.std.specs.Prelude.{slice_get}
use Rattle.poly_graph.specs.Form.{form_truth}
use Rattle.poly_graph.specs.FormGraph.{FormNode, forms_in_order, form_at, graph_forms}
use Rattle.poly_graph.specs.FormViews.{form_node_of}
use Rattle.poly_graph.specs.Problem.{sorts_of_problem}
use Rattle.cover_model.specs.State.{may_atom, domain_allows, state_of}
use Rattle.poly_graph.specs.ProblemViews.{problem_of}
use Rattle.ival.specs.SpaceViews.{space_of}
use Rattle.form_truth.specs.Truth.{of_atoms, node_truth, pruning}
use Rattle.form_truth.proofs.FormTruth.{same_truth, form_comes_later, form_comes_at, truths_next, test_within}
use Rattle.cert_check.proofs.form.may_hold.Goals as goal

pub may_node-holds-requires-clause-order : goal.may_node-holds-requires-clause-order
may_node-holds-requires-clause-order c =
    let n = c.loop-n.n in let node = form_node_of c.node-node.result.now in
    let here = form_comes_at c.forms-forms.result.now c.len-n-end.ensures.graph.ordered n node c.node-node.ensures in
    form_comes_later n (length c.deref.result.now) node (omega (arith, c.loop-n-test.true, c.loop-n.invariant.count, c.len-n-end.ensures.len, c.deref.ensures.len, ap length c.forms-forms.ensures.forms)) here

pub loop-n-preserved : goal.loop-n-preserved
loop-n-preserved c =
    let p = c.args.problem.now in let n = c.loop-n.n in let node = form_node_of c.node-node.result.now in let truths = c.loop-n.marks.truths.items in
    let atoms : ℕ → Bool = of_atoms p (may_atom (problem_of p) (pruning c.args.judged.now.margin) (state_of (space_of c.args.space.now) c.args.lits.now)) in
    let bools : ℕ → Bool → Bool = domain_allows (space_of c.args.space.now) in
    let e = ap (λ (ns : List FormNode). slice_get ns n) (sym c.forms-forms.ensures.forms) ∙ c.node-node.ensures in
    let o = subst (λ (ns : List FormNode). IsTrue (forms_in_order 0 ns)) c.forms-forms.ensures.forms c.len-n-end.ensures.graph.ordered in
    let inside : n < length truths = omega (arith, c.loop-n-test.true, c.loop-n.invariant.count, c.len-n-end.ensures.len, ap length c.forms-forms.ensures.forms) in
    record {
      count = c.loop-n.invariant.count;
      filled = truths_next atoms bools p.forms o truths n node c.may_node-holds.result e inside (c.may_node-holds.ensures ∙ ap (λ (ts : List Bool). node_truth atoms bools ts node) c.deref.ensures.value) c.loop-n.invariant.filled;
    }

pub returns-clause-truth : goal.returns-clause-truth
returns-clause-truth c =
    let p = c.args.problem.now in let truths = c.loop-n.marks.truths.items in let root = c.root.result in
    let test : ℕ → Bool = may_atom (problem_of p) (pruning c.args.judged.now.margin) (state_of (space_of c.args.space.now) c.args.lits.now) in
    let bools : ℕ → Bool → Bool = domain_allows (space_of c.args.space.now) in
    let whole = c.forms-forms.ensures.whole in
    let below : root < c.loop-n.n = omega (arith, c.root.ensures.root, whole.root, c.loop-n-test.false, c.len-n-end.ensures.len, ap length c.forms-forms.ensures.forms) in
    let inside : root < length truths = omega (arith, c.root.ensures.root, whole.root, c.loop-n.invariant.count) in
    c.index.ensures ∙ get_or_default truths root c.index.result.now false inside ∙ c.loop-n.invariant.filled root below
    ∙ ap (λ (k : ℕ). form_truth (of_atoms p test) bools (form_at (graph_forms p.forms) k)) c.root.ensures.root
    ∙ same_truth (sorts_of_problem (problem_of p)) (length p.atoms) (of_atoms p test) test bools (λ j h. test_within (length p.atoms) j (test j) h) (form_at (graph_forms p.forms) p.root) whole.problem.form

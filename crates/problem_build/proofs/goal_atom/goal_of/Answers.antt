use Rattle.std.proofs.Common.{◌≡◌, ap, ap₂, sym, ◌∙◌, arith, Some, map, ◌<◌, length}
use Rattle.poly_graph.specs.FormGraph.{form_at, graph_forms}
use Rattle.poly_graph.specs.FormViews.{form_node_of}
use Rattle.smt_script.specs.Views.{command_of, commands_in}
use Rattle.term_build.proofs.Lists.{get_below, get_index}
use Rattle.problem_build.specs.Goal.{before_goal, first_atom}
use Rattle.problem_build.proofs.GoalAtom as atoms
use Rattle.problem_build.proofs.goal_atom.goal_of.Goals as goal

pub returns-in_default : goal.returns-in_default
returns-in_default c =
    let s = c.args.script.now.sexps.now in
    sym (atoms.none_found (commands_in c.args.script.now) (ap (λ xs. before_goal (map (command_of s) xs)) (sym c.as_slice.ensures.value) ∙ sym (c.in_default.ensures s)))

pub returns-in_default-node : goal.returns-in_default-node
returns-in_default-node c =
    let form = ap₂ (λ fs r. form_at (graph_forms fs) r) c.forms-forms.ensures.forms c.root.ensures.root ∙ c.requires.1.problem.form in
    absurd (atoms.root_holds_all (commands_in c.args.script.now) c.forms-forms.result.now c.root.result c.len.ensures.graph form c.node.result.now c.node.ensures c.in_default-node.not-And)

pub index-requires : goal.index-requires
index-requires c =
    let s = c.args.script.now.sexps.now in
    let form = ap₂ (λ fs r. form_at (graph_forms fs) r) c.forms-forms.ensures.forms c.root.ensures.root ∙ c.requires.1.problem.form in
    let before = ap (λ xs. before_goal (map (command_of s) xs)) (sym c.as_slice.ensures.value) ∙ sym (c.in-Some.ensures s) in
    let n = atoms.goal_node (commands_in c.args.script.now) c.forms-forms.result.now c.root.result c.len.ensures.graph form c.in-And.claims.items c.in-Some.before
    (c.node.ensures ∙ ap (λ x. Some (form_node_of x)) c.in-And.is) before in
    omega (arith, get_below c.in-And.claims.items c.in-Some.before n.0 n.1, c.in-And.claims.ok)

pub first_atom-requires : goal.first_atom-requires
first_atom-requires c =
    let s = c.args.script.now.sexps.now in
    let form = ap₂ (λ fs r. form_at (graph_forms fs) r) c.forms-forms.ensures.forms c.root.ensures.root ∙ c.requires.1.problem.form in
    let before = ap (λ xs. before_goal (map (command_of s) xs)) (sym c.as_slice.ensures.value) ∙ sym (c.in-Some.ensures s) in
    let n = atoms.goal_node (commands_in c.args.script.now) c.forms-forms.result.now c.root.result c.len.ensures.graph form c.in-And.claims.items c.in-Some.before
    (c.node.ensures ∙ ap (λ x. Some (form_node_of x)) c.in-And.is) before in
    let root : c.root.result < length c.forms-forms.result.now = get_below c.forms-forms.result.now c.root.result (form_node_of c.node.result.now) c.node.ensures in
    let same : c.index.result.now ≡ n.0 = c.index.ensures ∙ get_index c.in-And.claims.items c.in-Some.before n.0 c.index.result.now n.1 in
    omega (arith, same, n.2, root)

pub returns : goal.returns
returns c =
    let s = c.args.script.now.sexps.now in
    let form = ap₂ (λ fs r. form_at (graph_forms fs) r) c.forms-forms.ensures.forms c.root.ensures.root ∙ c.requires.1.problem.form in
    let before = ap (λ xs. before_goal (map (command_of s) xs)) (sym c.as_slice.ensures.value) ∙ sym (c.in-Some.ensures s) in
    let n = atoms.goal_node (commands_in c.args.script.now) c.forms-forms.result.now c.root.result c.len.ensures.graph form c.in-And.claims.items c.in-Some.before
    (c.node.ensures ∙ ap (λ x. Some (form_node_of x)) c.in-And.is) before in
    let same : c.index.result.now ≡ n.0 = c.index.ensures ∙ get_index c.in-And.claims.items c.in-Some.before n.0 c.index.result.now n.1 in
    c.first_atom.ensures ∙ ap (λ k. first_atom (form_at (graph_forms c.forms-forms.result.now) k)) same ∙ n.3

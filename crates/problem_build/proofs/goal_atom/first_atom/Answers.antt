use Rattle.std.proofs.Common.{ap, sym, ◌∙◌, Some}
use Rattle.poly_graph.specs.FormGraph.{any_node}
use Rattle.poly_graph.specs.FormViews.{form_node_of}
use Rattle.problem_build.proofs.GoalAtom as atoms
use Rattle.problem_build.proofs.goal_atom.first_atom.Goals as goal

pub returns-in_default : goal.returns-in_default
returns-in_default c = atoms.no_disjunction c.args.forms.now c.len.ensures.graph c.args.n c.node.result.now c.node.ensures c.in_default.not-Or

pub returns-in_default-as_slice : goal.returns-in_default-as_slice
returns-in_default-as_slice c =
    let is = c.node.ensures ∙ ap (λ x. Some (form_node_of x)) c.in-Or.is ∙ ap (λ ks. Some (any_node ks)) (sym c.as_slice.ensures.value) in
    atoms.no_parts c.args.forms.now c.len.ensures.graph c.args.n c.as_slice.result.now is c.in_default-as_slice.len_below

pub node-requires-2 : goal.node-requires-2
node-requires-2 c =
    let is = c.node.ensures ∙ ap (λ x. Some (form_node_of x)) c.in-Or.is ∙ ap (λ ks. Some (any_node ks)) (sym c.as_slice.ensures.value) in
    atoms.part_below c.args.forms.now c.len.ensures.graph c.args.n c.as_slice.result.now is c.in-len1-up.len_at_least c.requires

pub returns-in-AtomIs : goal.returns-in-AtomIs
returns-in-AtomIs c =
    let is = c.node.ensures ∙ ap (λ x. Some (form_node_of x)) c.in-Or.is ∙ ap (λ ks. Some (any_node ks)) (sym c.as_slice.ensures.value) in
    atoms.part_atom c.args.forms.now c.len.ensures.graph c.args.n c.as_slice.result.now is c.in-len1-up.len_at_least c.in-AtomIs.atom
    (c.node-2.ensures ∙ ap (λ x. Some (form_node_of x)) c.in-AtomIs.is)

pub returns-in_default-node : goal.returns-in_default-node
returns-in_default-node c =
    let is = c.node.ensures ∙ ap (λ x. Some (form_node_of x)) c.in-Or.is ∙ ap (λ ks. Some (any_node ks)) (sym c.as_slice.ensures.value) in
    atoms.part_other c.args.forms.now c.len.ensures.graph c.args.n c.as_slice.result.now is c.in-len1-up.len_at_least c.node-2.result.now c.node-2.ensures c.in_default-node.not-AtomIs

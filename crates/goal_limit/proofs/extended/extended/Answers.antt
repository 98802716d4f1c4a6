use Rattle.std.proofs.Common.{◌≡◌, refl, sym, ap, ◌∙◌, subst, length, arith}
use Rattle.dyadic.specs.Views.{fraction_of_frac}
use Rattle.poly_graph.specs.declared.node.Atom.{Atom}
use Rattle.poly_graph.specs.declared.node.Kind.TheVariants.{Le}
use Rattle.poly_graph.specs.ProblemViews.{Parts, IsWhole, parts_of, problem_of}
use Rattle.poly_graph.specs.Shared.{IsGraph}
use Rattle.goal_limit.specs.Made.{IsLimitForm, limit_parts}
use Rattle.goal_limit.proofs.Parts.{constant_of, term_is, limit_same, made_for}
use Rattle.goal_limit.proofs.Wholes.{goal_within, limit_whole, limit_problem}
use Rattle.goal_limit.proofs.extended.extended.Goals as goal
use Rattle.goal_limit.proofs.extended.extended.Goals.{In_ok-axes}

abbrev no_atom : Atom
no_atom = record { term = 0; kind = Le }

pub graph_with-requires-clause-term : goal.graph_with-requires-clause-term
graph_with-requires-clause-term c = let q = c.args.problem.now in
    omega (arith, term_is q c.atoms-2.result.now c.args.goal no_atom c.atoms-2.ensures.atoms c.requires.goal, goal_within q c.args.goal c.atoms-2.ensures.whole c.requires.goal, ap length c.graph-2.ensures.graph)

same : (c : In_ok-axes) → parts_of c.in_ok-axes.axes.items c.in_ok-graph.graph c.in_ok-atoms.atoms.items c.in_ok-forms.forms c.in_ok-forms.root ≡ limit_parts c.args.problem.now c.args.goal (fraction_of_frac c.args.constants.scale) (fraction_of_frac c.args.constants.offset) c.in_ok-forms.forms c.in_ok-forms.root
same c = let q = c.args.problem.now in
    limit_same q c.args.goal _ c.len-nodes.result c.in_ok-forms.root (fraction_of_frac c.args.constants.scale) (fraction_of_frac c.args.constants.offset)
    c.axes.result.now c.in_ok-axes.axes.items c.graph-2.result.now c.in_ok-graph.graph c.atoms-3.result.now c.in_ok-atoms.atoms.items c.in_ok-forms.forms
    c.in_ok-axes.ensures.items c.axes.ensures.axes c.in_ok-graph.ensures c.graph-2.ensures.graph (term_is q c.atoms-2.result.now c.args.goal no_atom c.atoms-2.ensures.atoms c.requires.goal)
    c.in_ok-atoms.ensures c.atoms-3.ensures.atoms (c.len-nodes.ensures.len ∙ ap length c.graph.ensures.graph)

made : (c : In_ok-axes) → IsLimitForm c.args.problem.now.forms c.args.problem.now.root (length c.args.problem.now.atoms) c.in_ok-forms.forms c.in_ok-forms.root
made c = made_for c.args.problem.now c.forms.result.now c.in_ok-forms.forms c.root.result _ c.in_ok-forms.root c.atoms.result.now c.in_ok-forms.ensures c.forms.ensures.forms c.root.ensures.root refl c.atoms.ensures.atoms

pub new-requires : goal.new-requires
new-requires c = let q = c.args.problem.now in let a = fraction_of_frac c.args.constants.scale in let b = fraction_of_frac c.args.constants.offset in
    subst IsWhole (sym (same c)) (limit_whole q c.args.goal a b c.in_ok-forms.forms c.in_ok-forms.root c.root.ensures.whole (made c)
    (constant_of c.args.constants.scale) (constant_of c.args.constants.offset) (subst IsGraph (ap (λ (p : Parts). p.nodes) (same c)) (subst IsGraph c.graph-3.view_is c.graph-3.invariant)))

pub returns : goal.returns
returns c = let q = c.args.problem.now in let here = (goal.at.returns c).In_ok-axes in
    ap problem_of (c.new.ensures ∙ same here) ∙ limit_problem q c.args.goal (fraction_of_frac c.args.constants.scale) (fraction_of_frac c.args.constants.offset) c.in_ok-forms.forms c.in_ok-forms.root (made here)

use Rattle.std.proofs.Common.{ℕ, List, subst}
use Rattle.std.proofs.lemmas.Result.{IfOk-weaker}
use Rattle.poly_graph.specs.FormGraph.{FormNode, all_node}
use Rattle.goal_limit.specs.Made.{HasNode}
use Rattle.goal_limit.proofs.LimitForms.{limit_form}
use Rattle.goal_limit.proofs.forms.forms_with.Goals as goal

pub returns : goal.returns
returns c =
    let mid : List FormNode = c.in_ok-with_atom.with_atom in
    IfOk-weaker _ _ _ (λ (r : List FormNode × ℕ) h.
    limit_form c.args.forms.now mid c.args.root c.args.atom c.in_ok-with_atom.n c.requires c.in_ok-with_atom.ensures r.0 r.1
    (subst (λ (xs : List ℕ). HasNode mid (all_node xs) r.0 r.1) c.in_ok-both.ensures.items h)) c.with_node-2.ensures

use Rattle.std.proofs.Common.{ℕ, [], Option, length, sym, subst, ap, ◌∙◌}
use Rattle.std.proofs.lemmas.List.{length-map}
use Rattle.cover_model.specs.State.{State}
use Rattle.poly_graph.specs.Views.{atom_of}
use Rattle.poly_graph.specs.ProblemViews.{problem_of}
use Rattle.cert_model.specs.Due.{Next, is_some_axis}
use Rattle.cert_model.specs.Accepted.{root_line, tree_line}
use Rattle.form_truth.specs.declared.root.Root.{Root}
use Rattle.ival.specs.SpaceViews.{space_of}
use Rattle.form_truth.specs.Roots.{IsRoot}
use Rattle.cert_check.specs.States.{loosenings_of}
use Rattle.cover_line.specs.Views.{line_of as rule_of}
use Rattle.cert_check.specs.Dues.{IsOutcome}
use Rattle.cert_check.proofs.RuleFits.{root_is}
use Rattle.cert_check.proofs.tree.root_rule.Goals as goal

pub returns-in_ok-lits-in-Space-clause-comes : goal.returns-in_ok-lits-in-Space-clause-comes
returns-in_ok-lits-in-Space-clause-comes c b =
    let p = c.args.problem.now in let P = problem_of p in let s = loosenings_of c.args.cover.loosenings in let lemmas = c.args.cover.lemmas in let l = rule_of c.args.step.now in
    let root = subst (λ (r : Root). IsRoot p r) c.in-Space.is c.in_ok-root_space.ensures in
    let count = sym (length-map c.atoms.result.now atom_of) ∙ ap length c.atoms.ensures.atoms in
    let state = root_is p (space_of c.in-Space.space) c.in_ok-lits-in-Space.lits (length c.atoms.result.now) root.1 (c.in_ok-lits-in-Space.ensures) count in
    subst (λ (x : Next). IsOutcome p c.main_rule.result x)
    (ap (λ (S : State). tree_line P s lemmas S [] [] l) state
    ∙ sym (ap (λ (o : Option ℕ). root_line (is_some_axis o) P s lemmas l) root.0))
    (c.main_rule.ensures.comes b)

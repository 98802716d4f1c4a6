use Rattle.std.proofs.Common.{All, length, map, ap, sym, subst, ◌∙◌}
use Rattle.std.proofs.lemmas.List.{length-map}
use Rattle.poly_graph.specs.Views.{atom_of}
use Rattle.poly_graph.specs.ProblemViews.{problem_of}
use Rattle.ival.specs.SpaceViews.{space_of}
use Rattle.cover_model.specs.Carried.{carried}
use Rattle.form_truth.specs.declared.root.Root.{Root}
use Rattle.form_truth.specs.Roots.{IsRoot}
use Rattle.cert_check.specs.States.{HasMore}
use Rattle.cert_check.proofs.Carried.{all_fit, carried_all}
use Rattle.cert_check.proofs.lemmas.Lemmas.carried.Goals as goal

pub returns-clause-carried : goal.returns-clause-carried
returns-clause-carried c =
    let p = c.args.problem.now in let t = c.self.inside in
    let root = subst (λ (r : Root). IsRoot p r) c.in-Space.is c.in_ok-root_space.ensures in
    carried_all p (space_of t.beyond) (space_of c.in-Space.root) (space_of c.in_ok-lengthened-in-Space.field-0) t.atoms (length c.atoms.result.now) t.written.items
    root.1 (sym (length-map c.atoms.result.now atom_of) ∙ ap length c.atoms.ensures.atoms) c.in_ok-lengthened-in-Space.ensures (subst (All (HasMore p)) (sym c.self.view_is) c.requires.more)
    ∙ ap (map (carried (problem_of p))) c.self.view_is

pub returns-clause-fit : goal.returns-clause-fit
returns-clause-fit c = all_fit c.args.problem.now c.args.self _ c.requires.more (returns-clause-carried c)

use Rattle.std.proofs.Common.{◌≡◌, ◌∙◌, IsTrue, None, ap, arith, length, subst, sym}
use Rattle.std.proofs.lemmas.List.{length-map}
use Rattle.cover_model.specs.Fits.{FitsAxes}
use Rattle.poly_graph.specs.Problem.{first_crossed}
use Rattle.cover_model.specs.Root.{root_space}
use Rattle.poly_graph.specs.ProblemViews.{problem_of}
use Rattle.interval_model.specs.Space.{Space, space_within}
use Rattle.poly_graph.specs.Views.{atom_of}
use Rattle.ival.specs.SpaceViews.{space_of}
use Rattle.form_truth.specs.Roots.{IsRoot}
use Rattle.cover_rule.proofs.Points.{fits_root}
use Rattle.sample_problems.proofs.inside.lies_within.Goals as goal

pub returns : goal.returns
returns c = λ h.
    let p = problem_of c.args.problem.now in
    let s = c.space-space.result.now in
    let root : (first_crossed p ≡ None) × (space_of c.in-Ok-Space.root ≡ root_space p) = subst (IsRoot c.args.problem.now) c.in-Ok-Space.field-0-is c.in-Ok-Space.ensures in
    let inside : IsTrue (space_within (space_of s) (space_of c.in-Ok-Space.root)) = sym c.within.ensures ∙ h in
    record {
      axes = subst (FitsAxes p.axes) c.space-space.ensures (fits_root p.axes s (subst (λ (x : Space). IsTrue (space_within (space_of s) x)) root.1 inside));
      marks = omega (arith, ap length c.lits.ensures, length-map c.atoms.result.now atom_of, ap length c.atoms.ensures.atoms);
    }

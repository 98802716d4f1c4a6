use Rattle.std.proofs.Common.{◌≡◌, IsTrue, None, subst, sym}
use Rattle.cover_model.specs.Fits.{FitsAxes, FitsProblem}
use Rattle.cover_model.specs.Root.{root_space}
use Rattle.cover_model.proofs.Within.{space_reflexive}
use Rattle.cover_rule.proofs.Points.{fits_root}
use Rattle.interval_model.specs.Space.{Space, space_within}
use Rattle.ival.specs.SpaceViews.{space_of}
use Rattle.poly_graph.specs.Problem.{first_crossed}
use Rattle.poly_graph.specs.ProblemViews.{problem_of}
use Rattle.form_truth.specs.Roots.{IsRoot}
use Rattle.box_worker.proofs.lessons.root_with.Goals as goal

pub returns-in-Space-clause-fits : goal.returns-in-Space-clause-fits
returns-in-Space-clause-fits c =
    let p = problem_of c.args.problem.now in let s = c.in-Space.space in
    let root : (first_crossed p ≡ None) × (space_of s ≡ root_space p) = subst (IsRoot c.args.problem.now) c.in-Space.is c.in_ok-root_space.ensures in
    let axes : FitsAxes p.axes (space_of s) = fits_root p.axes s (subst (λ (x : Space). IsTrue (space_within (space_of s) x)) root.1 (space_reflexive (space_of s))) in
    subst (FitsProblem p) (sym c.new.ensures) (record { axes = axes; marks = c.requires })

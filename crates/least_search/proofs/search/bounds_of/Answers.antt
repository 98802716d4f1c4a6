use Rattle.std.proofs.Common.{Bor, ℕ, ap, ap₂, refl, sym, subst, ◌∙◌}
use Rattle.interval_model.specs.Space.{Space}
use Rattle.poly_graph.specs.ProblemViews.{Parts, problem_of}
use Rattle.ival.specs.SpaceViews.{space_of}
use Rattle.cert_model.specs.Least.{upper_at}
use Rattle.least_search.specs.Found.{BeginsFor, IsShownFor}
use Rattle.least_search.proofs.Searches.{first_bounds}
use Rattle.least_search.proofs.search.bounds_of.Goals as goal

pub returns-clause-bounds : goal.returns-clause-bounds
returns-clause-bounds c =
    let a = c.args.aim.now in let s = c.root_bound.ensures.same in let x : Space = c.in_ok-try_clone.field-0 in
    first_bounds a _ c.in_ok-root_bound.field-0 refl c.in_ok-root_bound.ensures.bound c.requires.crossed (subst (IsShownFor a) (sym c.in_ok-try_clone.ensures) c.requires.shown)
    (c.upper-upper.ensures.upper ∙ ap₂ (λ (p : Bor Parts) (g : ℕ). upper_at (problem_of p.now) g (space_of c.space.result.now)) s.problem s.goal
    ∙ ap (upper_at (problem_of a.problem.now) a.goal) (c.space.ensures ∙ sym c.in_ok-try_clone.ensures)) refl c.requires.version
    (subst (λ (y : Space). BeginsFor a y c.args.budget) (sym c.in_ok-try_clone.ensures) c.requires.begins)

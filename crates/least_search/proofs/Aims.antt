-- Aims of which nothing but the rows differs.
use Rattle.std.proofs.Common.{◌∙◌, subst, Bor, ℕ}
use Rattle.poly_graph.specs.ProblemViews.{Parts}
use Rattle.cover_data.specs.declared.margins.Options.{Options}
use Rattle.least_search.specs.declared.aim.Aim.{Aim}
use Rattle.least_search.specs.declared.bounds.Bounds.{Bounds}
use Rattle.least_search.specs.Aims.{IsSameAim}
use Rattle.least_search.specs.Found.{AreBoundsOf, IsBounds}

pub same_through : (a b c : Aim) → IsSameAim a b → IsSameAim b c → IsSameAim a c
same_through a b c s t = record { problem = t.problem ∙ s.problem; goal = t.goal ∙ s.goal; gap = t.gap ∙ s.gap; options = t.options ∙ s.options }

-- bounds of one are bounds of the other
pub bounds_of : (a b : Aim) → IsSameAim a b → (x : Bounds) → AreBoundsOf b x → AreBoundsOf a x
bounds_of a b s x h =
    subst (λ (p : Bor Parts). IsBounds p.now a.goal a.options.now x) s.problem
    (subst (λ (g : ℕ). IsBounds b.problem.now g a.options.now x) s.goal
    (subst (λ (o : Bor Options). IsBounds b.problem.now b.goal o.now x) s.options h))

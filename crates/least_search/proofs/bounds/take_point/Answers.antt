use Rattle.std.proofs.Common.{ap, sym, subst, ◌∙◌}
use Rattle.dyadic.specs.Views.{ext_of}
use Rattle.interval_model.specs.Space.{Space}
use Rattle.poly_graph.specs.ProblemViews.{problem_of}
use Rattle.cert_model.specs.Least.{upper_at}
use Rattle.least_search.specs.Found.{IsShownFor}
use Rattle.least_search.proofs.Near.{at_most_otherwise}
use Rattle.least_search.proofs.Searches.{better_bounds}
use Rattle.least_search.proofs.bounds.take_point.Goals as goal

pub returns-clause-bounds : goal.returns-clause-bounds
returns-clause-bounds c =
    let a = c.args.aim.now in let b = c.args.bounds.now in let x : Space = c.in_ok-bounds.field-0 in
    better_bounds a b x c.upper-upper.result c.requires.bounds (subst (IsShownFor a) (sym c.in_ok-bounds.ensures) c.requires.shown)
    (c.upper-upper.ensures.upper ∙ ap (upper_at (problem_of a.problem.now) a.goal) (c.space.ensures ∙ sym c.in_ok-bounds.ensures))
    (at_most_otherwise (ext_of b.upper) (ext_of c.upper-upper.result) (sym c.at_most.ensures ∙ c.if-at_most.false))

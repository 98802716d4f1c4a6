use Rattle.std.proofs.Common.{◌≡◌, ◌+◌, ◌-◌, true, Option, refl, sym, subst, arith}
use Rattle.std.specs.Prelude.{IfSome}
use Rattle.dyadic.specs.Rounding.{ext_at_most}
use Rattle.dyadic.specs.Views.{ext_of}
use Rattle.interval_model.specs.Space.{Space}
use Rattle.poly_graph.specs.ProblemViews.{problem_of}
use Rattle.cert_model.specs.Least.{upper_at}
use Rattle.least_search.proofs.Searches.{bounds_behind}
use Rattle.least_search.proofs.search.take_undecided.Goals as goal

pub returns-clause-bounds : goal.returns-clause-bounds
returns-clause-bounds c =
    let a = c.args.aim.now in let b = c.args.bounds.now in
    bounds_behind a b c.args.limited.now c.args.book.now c.requires.bounds c.requires.search b (b.budget - (1 + c.branches.result)) c.requires.bounds refl refl c.requires.undecided
    (subst (λ (o : Option Space). IfSome o (λ x. ext_at_most (ext_of b.upper) (upper_at (problem_of a.problem.now) a.goal x) ≡ true)) (sym c.requires.no_point) tt)
    (omega (arith, c.branches.ensures.branches, c.requires.search.few))

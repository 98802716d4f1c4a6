use Rattle.std.proofs.Common.{◌≡◌, ◌+◌, ◌-◌, true, Option, sym, subst, arith}
use Rattle.std.specs.Prelude.{IfSome}
use Rattle.dyadic.specs.Rounding.{ext_at_most}
use Rattle.dyadic.specs.Views.{ext_of}
use Rattle.interval_model.specs.Space.{Space}
use Rattle.poly_graph.specs.ProblemViews.{problem_of}
use Rattle.cert_model.specs.Least.{upper_at}
use Rattle.least_search.proofs.Searches.{bounds_behind}
use Rattle.least_search.proofs.Shown.{point_of}
use Rattle.least_search.proofs.search.take_found.Goals as goal

pub take_valley-requires-clause-shown : goal.take_valley-requires-clause-shown
take_valley-requires-clause-shown c =
    point_of c.args.aim.now c.requires.ready c.args.limited.now c.args.book.now c.requires.search.searched c.in-Some.point.now c.in-Some.ensures

pub returns-clause-bounds : goal.returns-clause-bounds
returns-clause-bounds c =
    let a = c.args.aim.now in let b = c.args.bounds.now in let v = c.take_valley.new.bounds in
    bounds_behind a b c.args.limited.now c.args.book.now c.requires.bounds c.requires.search v (v.budget - (1 + c.branches.result)) c.take_valley.ensures.bounds c.take_valley.ensures.lower
    c.take_valley.ensures.budget c.requires.undecided
    (subst (λ (o : Option Space). IfSome o (λ x. ext_at_most (ext_of v.upper) (upper_at (problem_of a.problem.now) a.goal x) ≡ true)) (sym c.in-Some.ensures) c.in_ok-take_valley.ensures.kept)
    (omega (arith, c.branches.ensures.branches, c.requires.search.few, c.take_valley.ensures.budget))

use Rattle.std.proofs.Common.{Ok, Err}
use Rattle.std.specs.Prelude.{OnOk, Result}
use Rattle.dyadic.specs.Views.{ext_of}
use Rattle.poly_graph.specs.ProblemViews.{problem_of}
use Rattle.cert_model.specs.Least.{upper_at}
use Rattle.least_search.proofs.Near.{at_most_through}
use Rattle.least_search.proofs.descent.take_valley.Goals as goal

pub returns-clause-better : goal.returns-clause-better
returns-clause-better c =
    at_most_through (ext_of c.go_down.new.bounds.upper) (ext_of c.take_point.new.bounds.upper) (ext_of c.args.bounds.now.upper) c.go_down.ensures.better c.take_point.ensures.better

whatever : {X Y P : Type 0} (r : Result X Y) → P → OnOk r P
whatever (Ok x) p = p
whatever (Err e) p = tt

pub returns-clause-kept : goal.returns-clause-kept
returns-clause-kept c =
    let a = c.args.aim.now in
    whatever c.go_down.result
    (at_most_through (ext_of c.go_down.new.bounds.upper) (ext_of c.take_point.new.bounds.upper) (upper_at (problem_of a.problem.now) a.goal c.args.point.now) c.go_down.ensures.better c.in_ok-take_point.ensures.kept)

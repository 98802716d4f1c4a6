use Rattle.std.proofs.Common.{List, [], sym, subst, refl}
use Rattle.std.proofs.lemmas.Result.{err_from_is_err_and}
use Rattle.script_model.specs.Declared.{bounding}
use Rattle.script_forms.specs.Work.{as_work}
use Rattle.smt_sexp.specs.Arena.{expression_at, rest_of}
use Rattle.smt_sexp.specs.Views.{place_of}
use Rattle.problem_build.specs.Names.{AreLocals}
use Rattle.problem_build.specs.LetParts.{as_let, let_of}
use Rattle.problem_build.specs.declared.locals.Local.{Local}
use Rattle.problem_build.proofs.Reached as reached
use Rattle.problem_build.proofs.Steps as steps
use Rattle.problem_build.proofs.Turns as turns
use Rattle.problem_build.proofs.expressions.let_value.Goals as goal

pub returns-clause-walks : goal.returns-clause-walks
returns-clause-walks c = λ top names bnames knows.
    let s = c.args.sexps.now in
    let m = c.args.maker.now in
    let m1 = c.reach.new.self in
    let scope = c.args.scope in
    let at = place_of c.args.place in
    let inside = c.in-Some.inside in
    let body = c.in-Some.body in
    let is = c.in-Some.ensures.0 in
    let w = let_of as_work names at (as_let (rest_of s c.args.at)) in
    let b = let_of bounding bnames at (as_let (rest_of s c.args.at)) in
    let after = reached.let_after s names at c.args.at inside body in
    turns.reaches_then s top m m1 m1 c.in_ok-reach.field-0 w after b c.let_on.result (reached.let_events names bnames at (rest_of s c.args.at) (rest_of s inside) (expression_at s body) is) refl c.in_ok-reach.ensures.does
    (c.let_on.ensures m1 top after b (record {
      names = names;
      bnames = bnames;
      knows = steps.knows_stays m m1 s top scope.visible scope.locals.value names bnames c.in_ok-reach.ensures.does.1.0 knows;
      done = [];
      bounded = [];
      stand = subst (λ (ls : List Local). AreLocals m1 ls [] []) (sym c.new.ensures) tt;
      binds = reached.let_begins s names bnames at c.args.at inside body is;
    }))

pub returns-in_err-reach-clause-walks : goal.returns-in_err-reach-clause-walks
returns-in_err-reach-clause-walks c = λ top names bnames knows.
    let s = c.args.sexps.now in
    let p = err_from_is_err_and c.from_residual.result c.from_residual.ensures.1 in
    rw (p.1, p.2) (turns.reach_fails c.args.maker.now _ _ c.in_err-reach.field-0.0
    (reached.let_events names bnames (place_of c.args.place) (rest_of s c.args.at) (rest_of s c.in-Some.inside) (expression_at s c.in-Some.body) c.in-Some.ensures.0) c.in_err-reach.ensures.does)

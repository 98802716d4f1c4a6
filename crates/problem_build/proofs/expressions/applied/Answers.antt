use Rattle.std.proofs.Common.{List, [], Some, None, sym, ◌∙◌, subst, refl}
use Rattle.std.proofs.lemmas.Result.{err_from_is_err_and}
use Rattle.script_model.specs.Reading.{application, meanings, found, operators}
use Rattle.script_model.specs.Declared.{bounding}
use Rattle.script_forms.specs.Work.{as_work}
use Rattle.smt_sexp.specs.Arena.{rest_of}
use Rattle.smt_sexp.specs.Views.{place_of}
use Rattle.value_build.specs.Values.{AreKnown, AreValues}
use Rattle.value_build.specs.declared.value.Value.{Value}
use Rattle.problem_build.specs.Names.{IsHead}
use Rattle.problem_build.specs.declared.locals.Local.{Local}
use Rattle.problem_build.proofs.Reached as reached
use Rattle.problem_build.proofs.Steps as steps
use Rattle.problem_build.proofs.Turns as turns
use Rattle.problem_build.proofs.expressions.applied.Goals as goal

pub call_on-requires : goal.call_on-requires
call_on-requires c = subst (λ (vs : List Value). AreKnown c.reach.new.self vs) (sym c.new.ensures.items) ([], [], tt)

pub returns-clause-walks : goal.returns-clause-walks
returns-clause-walks c = λ names bnames knows.
    let s = c.args.sexps.now in
    let top = c.args.top.now in
    let m = c.args.maker.now in
    let m1 = c.reach.new.self in
    let scope = c.args.scope in
    let ls = scope.locals.value in
    let at = c.args.place in
    let x = c.args.name.now in
    let h = c.in-Some.head in
    let items = rest_of s c.args.args in
    let there = sym c.ends.ensures ∙ c.if-ends.false in
    let is = subst (λ (xs : List Local). IsHead x top scope.visible xs (Some h)) c.deref.ensures c.in-Some.ensures in
    let w = application as_work names (place_of at) x (found x operators) (meanings as_work names items) in
    let b = application bounding bnames (place_of at) x (found x operators) (meanings bounding bnames items) in
    let after = reached.applied_after s top names x (place_of at) h items in
    turns.reaches_then s top m m1 c.call_on.new.maker c.in_ok-reach.field-0 w after b c.call_on.result (reached.applied_events m s top scope.visible ls names bnames knows x (place_of at) h items is there) refl c.in_ok-reach.ensures.does
    (c.call_on.ensures.walks top after b (record {
      names = names;
      bnames = bnames;
      knows = steps.knows_stays m m1 s top scope.visible ls names bnames c.in_ok-reach.ensures.does.1.0 knows;
      done = [];
      bounded = [];
      values = subst (λ (vs : List Value). AreValues m1 [] [] vs) (sym c.new.ensures.items) tt;
      call = reached.call_begins m s top scope.visible ls names bnames knows x at h c.args.args is there;
    }))

pub returns-in_default-clause-walks : goal.returns-in_default-clause-walks
returns-in_default-clause-walks c = λ names bnames knows.
    let s = c.args.sexps.now in
    let top = c.args.top.now in
    let m = c.args.maker.now in
    let scope = c.args.scope in
    let ls = scope.locals.value in
    let x = c.args.name.now in
    let is = subst (λ (xs : List Local). IsHead x top scope.visible xs None) c.deref.ensures c.in_default.ensures in
    turns.reaches_ill s top m m _ _ c.args.place c.ill_formed.result
    (reached.applied_unknown names (place_of c.args.place) x (meanings as_work names (rest_of s c.args.args)) is.0 (reached.none_known m s top scope.visible ls names bnames knows x is)) c.ill_formed.ensures

pub returns-then-ends-clause-walks : goal.returns-then-ends-clause-walks
returns-then-ends-clause-walks c = λ names bnames knows.
    turns.reaches_ill c.args.sexps.now c.args.top.now c.args.maker.now c.args.maker.now _ _ c.args.place c.ill_formed-then-ends.result
    (reached.applied_bare names (place_of c.args.place) c.args.name.now (rest_of c.args.sexps.now c.args.args) (sym c.ends.ensures ∙ c.if-ends.true)) c.ill_formed-then-ends.ensures

pub returns-in_err-reach-clause-walks : goal.returns-in_err-reach-clause-walks
returns-in_err-reach-clause-walks c = λ names bnames knows.
    let s = c.args.sexps.now in
    let top = c.args.top.now in
    let scope = c.args.scope in
    let x = c.args.name.now in
    let h = c.in-Some.head in
    let is = subst (λ (xs : List Local). IsHead x top scope.visible xs (Some h)) c.deref.ensures c.in-Some.ensures in
    let p = err_from_is_err_and c.from_residual.result c.from_residual.ensures.1 in
    rw (p.1, p.2) (turns.reach_fails c.args.maker.now _ _ c.in_err-reach.field-0.0
    (reached.applied_events c.args.maker.now s top scope.visible scope.locals.value names bnames knows x (place_of c.args.place) h (rest_of s c.args.args) is (sym c.ends.ensures ∙ c.if-ends.false)) c.in_err-reach.ensures.does)

use Rattle.std.proofs.Common.{List, [], Some, None, sym, subst, refl}
use Rattle.std.specs.Prelude.{Ok, Result}
use Rattle.std.proofs.lemmas.Result.{err_from_is_err_and}
use Rattle.dyadic.specs.Point.{Sort}
use Rattle.script_model.specs.Reading.{meaning}
use Rattle.script_model.specs.Declared.{bounding, constant_bounding, bounding_operation}
use Rattle.script_forms.specs.Atoms.{constant_tree}
use Rattle.script_forms.specs.Work.{Work, as_work, ending}
use Rattle.smt_sexp.specs.Arena.{expression_at}
use Rattle.smt_sexp.specs.Views.{place_of}
use Rattle.smt_script.specs.Views.{sort_of}
use Rattle.sort_check.specs.Views.{operator_of}
use Rattle.term_build.specs.declared.stop.Stop.{Stop}
use Rattle.value_build.proofs.Growth.{named_again}
use Rattle.problem_build.specs.Names.{IsHead, TopFits, Knows, work_names, bound_names_of}
use Rattle.problem_build.specs.Walking.{Turns, call_work}
use Rattle.problem_build.specs.declared.names.Head.{Head}
use Rattle.problem_build.specs.declared.names.Head.TheVariants as head
use Rattle.problem_build.specs.declared.top.Known.TheVariants as known
use Rattle.problem_build.specs.declared.locals.Local.{Local}
use Rattle.problem_build.specs.declared.frames.Next.{Next}
use Rattle.problem_build.specs.declared.frames.Next.TheVariants as next
use Rattle.problem_build.proofs.Lookups as lookups
use Rattle.problem_build.proofs.Reached as reached
use Rattle.problem_build.proofs.Steps as steps
use Rattle.problem_build.proofs.Turns as turns
use Rattle.problem_build.proofs.expressions.alone.Goals as goal

pub returns-in_default-clause-walks : goal.returns-in_default-clause-walks
returns-in_default-clause-walks c = λ s names bnames knows.
    let top = c.args.top.now in
    let m = c.args.maker.now in
    let scope = c.args.scope in
    let x = c.args.name.now in
    let is = subst (λ (xs : List Local). IsHead x top scope.visible xs None) c.deref.ensures c.in_default.ensures in
    turns.reaches_ill s top m m _ _ c.args.place c.ill_formed.result
    (reached.alone_unknown names (place_of c.args.place) x is.0 (reached.none_known m s top scope.visible scope.locals.value names bnames knows x is)) c.ill_formed.ensures

pub returns-in_err-reach-clause-walks : goal.returns-in_err-reach-clause-walks
returns-in_err-reach-clause-walks c = λ s names bnames knows.
    let top = c.args.top.now in
    let m = c.args.maker.now in
    let scope = c.args.scope in
    let x = c.args.name.now in
    let is = subst (λ (xs : List Local). IsHead x top scope.visible xs (Some c.in-Some.head)) c.deref.ensures c.in-Some.ensures in
    let begun = reached.alone_begins m s top scope.visible scope.locals.value names bnames knows x (place_of c.args.place) c.in-Some.head is in
    let p = err_from_is_err_and c.from_residual.result c.from_residual.ensures.1 in
    rw (p.1, p.2) (turns.reach_fails m _ begun.0 c.in_err-reach.field-0.0 begun.1 c.in_err-reach.ensures.does)

pub operate-requires : goal.operate-requires
operate-requires c = ([], [], tt)

pub constant-requires : goal.constant-requires
constant-requires c =
    let d = c.in-Constant in
    let top = c.args.top.now in
    let x = c.args.name.now in
    let is = subst (λ (h : Head). IsHead x top c.args.scope.visible c.deref.result.now (Some h)) d.is c.in-Some.ensures in
    (lookups.fits_top c.reach.new.self.made.sorts top (subst (λ (sorts : List Sort). TopFits sorts top) (sym c.reach.ensures.sorts) c.requires) x c.args.scope.visible d.field-0 (known.Constant d.axis d.field-2) is.2).1

pub returns-in-Operator-clause-walks : goal.returns-in-Operator-clause-walks
returns-in-Operator-clause-walks c = λ s names bnames knows.
    let d = c.in-Operator in
    let top = c.args.top.now in
    let m = c.args.maker.now in
    let m1 = c.reach.new.self in
    let m2 = c.operate.new.self in
    let scope = c.args.scope in
    let ls = scope.locals.value in
    let x = c.args.name.now in
    let at = place_of c.args.place in
    let here = subst (λ (xs : List Local). IsHead x top scope.visible xs (Some c.in-Some.head)) c.deref.ensures c.in-Some.ensures in
    let is = subst (λ (h : Head). IsHead x top scope.visible ls (Some h)) d.is here in
    let w = call_work s top at (head.Operator d.operator) [] in
    let b = bounding_operation (operator_of d.operator) [] in
    reached.alone_calls m m1 m2 s top scope.visible ls names bnames knows x at c.in_ok-reach.field-0 c.in_ok-reach.ensures.does d.operator c.back.result is
    (subst (λ (r : Result Next Stop). Turns m1 m2 s top w b r) (sym c.back.ensures) (turns.turns_back s top m1 m2 w b c.operate.result (c.operate.ensures.does [] [] tt)))

pub returns-in-Local-clause-walks : goal.returns-in-Local-clause-walks
returns-in-Local-clause-walks c = λ s names bnames knows.
    let d = c.in-Local in
    let top = c.args.top.now in
    let m = c.args.maker.now in
    let m1 = c.reach.new.self in
    let scope = c.args.scope in
    let ls = scope.locals.value in
    let x = c.args.name.now in
    let here = subst (λ (xs : List Local). IsHead x top scope.visible xs (Some c.in-Some.head)) c.deref.ensures c.in-Some.ensures in
    let is = subst (λ (h : Head). IsHead x top scope.visible ls (Some h)) d.is here in
    reached.alone_local m m1 m1 s top scope.visible ls names bnames knows x (place_of c.args.place) c.in_ok-reach.field-0 c.in_ok-reach.ensures.does d.value (Ok (next.Back d.value)) c.in_ok-reach.ensures.does.1.0 is
    (λ w b i. turns.turns_back s top m1 m1 (record { events = ending w.outcome; outcome = w.outcome }) b (Ok d.value) (named_again m1 w.outcome b d.value i))

pub returns-in-Constant-clause-walks : goal.returns-in-Constant-clause-walks
returns-in-Constant-clause-walks c = λ s names bnames knows.
    let d = c.in-Constant in
    let top = c.args.top.now in
    let m = c.args.maker.now in
    let m1 = c.reach.new.self in
    let m2 = c.constant.new.self in
    let scope = c.args.scope in
    let ls = scope.locals.value in
    let x = c.args.name.now in
    let here = subst (λ (xs : List Local). IsHead x top scope.visible xs (Some c.in-Some.head)) c.deref.ensures c.in-Some.ensures in
    let is = subst (λ (h : Head). IsHead x top scope.visible ls (Some h)) d.is here in
    let fits = lookups.fits_top m1.made.sorts top (subst (λ (sorts : List Sort). TopFits sorts top) (sym c.reach.ensures.sorts) c.requires) x scope.visible d.field-0 (known.Constant d.axis d.field-2) is.2 in
    let t = constant_tree d.axis (sort_of d.field-2) in
    let w : Work = record { events = ending t; outcome = t } in
    let b = constant_bounding d.axis (sort_of d.field-2) in
    reached.alone_constant m m1 m2 s top scope.visible ls names bnames knows x (place_of c.args.place) c.in_ok-reach.field-0 c.in_ok-reach.ensures.does d.field-0 d.axis d.field-2 c.back-in-Constant.result is
    (subst (λ (r : Result Next Stop). Turns m1 m2 s top w b r) (sym c.back-in-Constant.ensures) (turns.turns_back s top m1 m2 w b c.constant.result (c.constant.ensures.does (sort_of d.field-2) fits.0)))

pub returns-clause-walks : goal.returns-clause-walks
returns-clause-walks c = λ s names bnames knows.
    let d = c.in-Function in
    let top = c.args.top.now in
    let m = c.args.maker.now in
    let m1 = c.reach.new.self in
    let scope = c.args.scope in
    let ls = scope.locals.value in
    let x = c.args.name.now in
    let here = subst (λ (xs : List Local). IsHead x top scope.visible xs (Some c.in-Some.head)) c.deref.ensures c.in-Some.ensures in
    let is = subst (λ (h : Head). IsHead x top scope.visible ls (Some h)) d.is here in
    let inner = c.in_ok-inner-in-Function.inner in
    let n = next.Enter inner d.body in
    let names1 = work_names s top d.visible in
    let bnames1 = bound_names_of s top d.visible in
    let no = c.new.result in
    reached.alone_function m m1 m1 s top scope.visible ls names bnames knows x (place_of c.args.place) c.in_ok-reach.field-0 c.in_ok-reach.ensures.does d.visible d.field-1 d.body (Ok n) is
    (turns.goes_none s top m1 (meaning as_work names1 (expression_at s d.body)) (meaning bounding bnames1 (expression_at s d.body)) n (record {
      names = names1;
      bnames = bnames1;
      knows = steps.knows_scope m1 s top d.visible no names1 bnames1 inner c.in_ok-inner-in-Function.ensures
          (subst (λ (xs : List Local). Knows m1 s top d.visible xs names1 bnames1) (sym c.new.ensures) (steps.knows_none m1 s top d.visible));
      work = refl;
      bound = refl;
    }))

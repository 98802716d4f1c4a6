use Rattle.std.proofs.Common.{List, ◌++◌, ap, sym, ◌∙◌, subst, refl}
use Rattle.std.specs.Prelude.{Ok}
use Rattle.script_model.specs.Reading.{meaning}
use Rattle.script_model.specs.Declared.{bounding}
use Rattle.script_forms.specs.Work.{as_work}
use Rattle.smt_sexp.specs.Arena.{expression_at}
use Rattle.smt_sexp.specs.Views.{place_of}
use Rattle.problem_build.specs.Names.{Knows}
use Rattle.problem_build.specs.declared.locals.Local.{Local}
use Rattle.problem_build.specs.declared.frames.Next.TheVariants as next
use Rattle.problem_build.proofs.Steps as steps
use Rattle.problem_build.proofs.Turns as turns
use Rattle.problem_build.proofs.Waiting as waiting
use Rattle.problem_build.proofs.frames.let_on.Goals as goal

pub returns-in_ok-scope-in-Some : goal.returns-in_ok-scope-in-Some
returns-in_ok-scope-in-Some c = λ m top w b h.
    turns.goes_none c.args.sexps.now top m w b _
    (waiting.let_next m c.args.sexps.now top c.args.bindings w b h c.in-Some.name (place_of c.in-Some.field-0-0) c.in-Some.at c.in-Some.after c.in_ok-scope-in-Some.scope c.in-Some.ensures.0 c.in_ok-scope-in-Some.ensures)

pub returns-in_ok-inner-in-None : goal.returns-in_ok-inner-in-None
returns-in_ok-inner-in-None c = λ m top w b h.
    let s = c.args.sexps.now in
    let l = c.args.bindings in
    let n = next.Enter c.in_ok-inner-in-None.inner l.body in
    let e = expression_at s l.body in
    let ls = c.in_ok-locals-in-None.locals in
    let all = c.in_ok-locals-in-None.ensures ∙ ap (λ xs. l.bound ++ xs) c.deref.ensures in
    waiting.let_last m s top l w b h m (Ok n) c.in-None.ensures
    (turns.goes_none s top m (meaning as_work (h.done ++ h.names) e) (meaning bounding (h.bounded ++ h.bnames) e) n (record {
      names = h.done ++ h.names;
      bnames = h.bounded ++ h.bnames;
      knows = steps.knows_scope m s top l.scope.visible ls (h.done ++ h.names) (h.bounded ++ h.bnames) c.in_ok-inner-in-None.inner c.in_ok-inner-in-None.ensures
          (subst (λ (xs : List Local). Knows m s top l.scope.visible xs (h.done ++ h.names) (h.bounded ++ h.bnames)) (sym all)
          (steps.knows_more m s top l.scope.visible l.bound l.scope.locals.value h.done h.names h.bounded h.bnames h.stand h.knows));
      work = refl;
      bound = refl;
    }))

use Rattle.std.proofs.Common.{refl}
use Rattle.std.specs.Prelude.{Ok}
use Rattle.std.proofs.lemmas.Result.{err_from_is_err_and}
use Rattle.script_model.specs.Reading.{meaning}
use Rattle.script_model.specs.Declared.{bounding}
use Rattle.script_forms.specs.Work.{as_work}
use Rattle.smt_sexp.specs.Arena.{expression_at}
use Rattle.problem_build.specs.declared.frames.Next.TheVariants as next
use Rattle.problem_build.proofs.Steps as steps
use Rattle.problem_build.proofs.Turns as turns
use Rattle.problem_build.proofs.expressions.annotated.Goals as goal

pub returns-clause-walks : goal.returns-clause-walks
returns-clause-walks c = λ s top place names bnames knows.
    let m = c.args.maker.now in
    let m1 = c.reach.new.self in
    let scope = c.args.scope in
    let n = next.Enter scope c.args.at in
    let w = meaning as_work names (expression_at s c.args.at) in
    let b = meaning bounding bnames (expression_at s c.args.at) in
    turns.reaches_then s top m m1 m1 c.in_ok-reach.field-0 (as_work.annotated place w) w b (Ok n) refl refl c.in_ok-reach.ensures.does
    (turns.goes_none s top m1 w b n (record {
      names = names;
      bnames = bnames;
      knows = steps.knows_stays m m1 s top scope.visible scope.locals.value names bnames c.in_ok-reach.ensures.does.1.0 knows;
      work = refl;
      bound = refl;
    }))

pub returns-in_err-reach-clause-walks : goal.returns-in_err-reach-clause-walks
returns-in_err-reach-clause-walks c = λ s top place names bnames knows.
    let p = err_from_is_err_and c.from_residual.result c.from_residual.ensures.1 in
    rw (p.1, p.2) (turns.reach_fails c.args.maker.now _ (meaning as_work names (expression_at s c.args.at)).events c.in_err-reach.field-0.0 refl c.in_err-reach.ensures.does)

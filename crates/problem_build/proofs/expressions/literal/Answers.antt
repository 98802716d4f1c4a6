use Rattle.std.proofs.Common.{sym, subst, refl}
use Rattle.std.specs.Prelude.{Result}
use Rattle.std.proofs.lemmas.Result.{err_from_is_err_and}
use Rattle.script_model.specs.Reading.{literal_value}
use Rattle.script_model.specs.Declared.{bounding}
use Rattle.script_forms.specs.Unfolded.{as_tree}
use Rattle.script_forms.specs.Work.{Work, as_work, ending}
use Rattle.term_build.specs.declared.stop.Stop.{Stop}
use Rattle.problem_build.specs.Walking.{Turns}
use Rattle.problem_build.specs.declared.frames.Next.{Next}
use Rattle.problem_build.proofs.Turns as turns
use Rattle.problem_build.proofs.expressions.literal.Goals as goal

pub returns-clause-walks : goal.returns-clause-walks
returns-clause-walks c = λ s top at.
    let q = literal_value c.args.digits.now c.args.decimals.now in
    let m = c.reach.new.self in
    let m1 = c.literal.new.self in
    let u = as_tree.literal at q in
    let after : Work = record { events = ending u; outcome = u } in
    turns.reaches_then s top c.args.maker.now m m1 c.in_ok-reach.field-0 (as_work.literal at q) after (bounding.literal at q) c.back.result refl refl c.in_ok-reach.ensures.does
    (subst (λ (r : Result Next Stop). Turns m m1 s top after (bounding.literal at q) r) (sym c.back.ensures)
    (turns.turns_back s top m m1 after (bounding.literal at q) c.literal.result c.literal.ensures.does))

pub returns-in_err-reach-clause-walks : goal.returns-in_err-reach-clause-walks
returns-in_err-reach-clause-walks c = λ s top at.
    let q = literal_value c.args.digits.now c.args.decimals.now in
    let p = err_from_is_err_and c.from_residual.result c.from_residual.ensures.1 in
    rw (p.1, p.2) (turns.reach_fails c.args.maker.now (as_work.literal at q).events (ending (as_tree.literal at q)) c.in_err-reach.field-0.0 refl c.in_err-reach.ensures.does)

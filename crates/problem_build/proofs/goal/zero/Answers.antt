use Rattle.std.proofs.lemmas.Result.{err_from_is_err_and}
use Rattle.script_model.specs.Declared.{bounding}
use Rattle.script_forms.specs.Work.{as_work, ending}
use Rattle.value_build.specs.Values.{IsValue}
use Rattle.problem_build.specs.Goal.{the_zero}
use Rattle.problem_build.proofs.Operands as operands
use Rattle.problem_build.proofs.goal.zero.Goals as goal

pub returns-clause-walks : goal.returns-clause-walks
returns-clause-walks c = λ at.
    let w = the_zero as_work at in
    operands.reached_then c.args.maker.now c.reach.new.self c.literal.new.self (ending w.outcome) (IsValue c.literal.new.self w.outcome (the_zero bounding at)) c.literal.result c.in_ok-reach.ensures.does c.literal.ensures.does

pub returns-in_err-reach-clause-walks : goal.returns-in_err-reach-clause-walks
returns-in_err-reach-clause-walks c = λ at.
    let p = err_from_is_err_and c.from_residual.result c.from_residual.ensures.1 in
    rw (p.1, p.2) (operands.unreached c.args.maker.now (ending (the_zero as_work at).outcome) c.in_err-reach.field-0.0 c.in_err-reach.ensures.does)

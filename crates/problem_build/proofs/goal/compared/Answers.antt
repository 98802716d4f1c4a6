use Rattle.std.proofs.Common.{◌∷◌, []}
use Rattle.std.proofs.lemmas.Result.{err_from_is_err_and}
use Rattle.script_model.specs.Reading.{at_most_op}
use Rattle.script_model.specs.Declared.{bounding}
use Rattle.script_forms.specs.Work.{as_work}
use Rattle.smt_sexp.specs.Views.{place_of}
use Rattle.problem_build.specs.Goal.{the_zero}
use Rattle.problem_build.specs.Names.{work_at, bounding_at}
use Rattle.problem_build.proofs.Operands as operands
use Rattle.problem_build.proofs.goal.compared.Goals as goal

pub operate-requires : goal.operate-requires
operate-requires c =
    let at = place_of c.args.place in
    let w = work_at c.args.sexps.now c.args.top.now c.args.body in
    let x = the_zero as_work at in
    let b = bounding_at c.args.sexps.now c.args.top.now c.args.body in
    let d = the_zero bounding at in
    (w.outcome ∷ x.outcome ∷ [], b ∷ d ∷ [], operands.two_known at at_most_op w x b d c.reach.new.self c.expression.new.maker c.zero.new.maker c.in_ok-term.term c.in_ok-zero.zero c.in_ok-term.ensures.walks (c.in_ok-zero.ensures.walks at))

pub returns-clause-walks : goal.returns-clause-walks
returns-clause-walks c =
    let at = place_of c.args.place in
    let w = work_at c.args.sexps.now c.args.top.now c.args.body in
    let x = the_zero as_work at in
    let b = bounding_at c.args.sexps.now c.args.top.now c.args.body in
    let d = the_zero bounding at in
    operands.two_done at at_most_op w x b d c.args.maker.now c.reach.new.self c.expression.new.maker c.zero.new.maker c.operate.new.self c.in_ok-term.term c.in_ok-zero.zero c.operate.result
    c.in_ok-reach.ensures.does c.in_ok-term.ensures.walks (c.in_ok-zero.ensures.walks at) c.operate.ensures.does

pub returns-in_err-reach-clause-walks : goal.returns-in_err-reach-clause-walks
returns-in_err-reach-clause-walks c =
    let at = place_of c.args.place in
    let w = work_at c.args.sexps.now c.args.top.now c.args.body in
    let x = the_zero as_work at in
    let b = bounding_at c.args.sexps.now c.args.top.now c.args.body in
    let d = the_zero bounding at in
    let p = err_from_is_err_and c.from_residual.result c.from_residual.ensures.1 in
    rw (p.1, p.2) (operands.none_reached at at_most_op w x b d c.args.maker.now c.in_err-reach.field-0.0 c.in_err-reach.ensures.does)

pub returns-in_err-term-clause-walks : goal.returns-in_err-term-clause-walks
returns-in_err-term-clause-walks c =
    let at = place_of c.args.place in
    let w = work_at c.args.sexps.now c.args.top.now c.args.body in
    let x = the_zero as_work at in
    let b = bounding_at c.args.sexps.now c.args.top.now c.args.body in
    let d = the_zero bounding at in
    let p = err_from_is_err_and c.from_residual-in_err-term.result c.from_residual-in_err-term.ensures.1 in
    rw (p.1, p.2) (operands.first_fails at at_most_op w x b d c.args.maker.now c.reach.new.self c.in_err-term.field-0.0 c.in_ok-reach.ensures.does c.in_err-term.ensures.walks)

pub returns-in_err-zero-clause-walks : goal.returns-in_err-zero-clause-walks
returns-in_err-zero-clause-walks c =
    let at = place_of c.args.place in
    let w = work_at c.args.sexps.now c.args.top.now c.args.body in
    let x = the_zero as_work at in
    let b = bounding_at c.args.sexps.now c.args.top.now c.args.body in
    let d = the_zero bounding at in
    let p = err_from_is_err_and c.from_residual-in_err-zero.result c.from_residual-in_err-zero.ensures.1 in
    rw (p.1, p.2) (operands.second_fails at at_most_op w x b d c.args.maker.now c.reach.new.self c.expression.new.maker c.in_ok-term.term c.in_err-zero.field-0.0 c.in_ok-reach.ensures.does c.in_ok-term.ensures.walks (c.in_err-zero.ensures.walks at))

use Rattle.std.proofs.Common.{◌∷◌, []}
use Rattle.std.proofs.lemmas.Result.{err_from_is_err_and}
use Rattle.script_model.specs.Reading.{disjunction}
use Rattle.script_model.specs.Declared.{bounding}
use Rattle.script_forms.specs.Work.{as_work}
use Rattle.smt_sexp.specs.Views.{place_of}
use Rattle.problem_build.specs.Goal.{at_most_zero, the_truth}
use Rattle.problem_build.specs.Names.{work_at, bounding_at}
use Rattle.problem_build.proofs.Operands as operands
use Rattle.problem_build.proofs.goal.disjunction.Goals as goal

pub operate-requires : goal.operate-requires
operate-requires c =
    let at = place_of c.args.place in
    let w = at_most_zero as_work at (work_at c.args.sexps.now c.args.top.now c.args.body) in
    let x = the_truth as_work at in
    let b = at_most_zero bounding at (bounding_at c.args.sexps.now c.args.top.now c.args.body) in
    let d = the_truth bounding at in
    (w.outcome ∷ x.outcome ∷ [], b ∷ d ∷ [], operands.two_known at disjunction w x b d c.reach.new.self c.compared.new.maker c.truth.new.maker c.in_ok-compared.compared c.in_ok-truth.truth c.in_ok-compared.ensures.walks (c.in_ok-truth.ensures.walks))

pub returns-clause-walks : goal.returns-clause-walks
returns-clause-walks c =
    let at = place_of c.args.place in
    let w = at_most_zero as_work at (work_at c.args.sexps.now c.args.top.now c.args.body) in
    let x = the_truth as_work at in
    let b = at_most_zero bounding at (bounding_at c.args.sexps.now c.args.top.now c.args.body) in
    let d = the_truth bounding at in
    operands.two_done at disjunction w x b d c.args.maker.now c.reach.new.self c.compared.new.maker c.truth.new.maker c.operate.new.self c.in_ok-compared.compared c.in_ok-truth.truth c.operate.result
    c.in_ok-reach.ensures.does c.in_ok-compared.ensures.walks (c.in_ok-truth.ensures.walks) c.operate.ensures.does

pub returns-in_err-reach-clause-walks : goal.returns-in_err-reach-clause-walks
returns-in_err-reach-clause-walks c =
    let at = place_of c.args.place in
    let w = at_most_zero as_work at (work_at c.args.sexps.now c.args.top.now c.args.body) in
    let x = the_truth as_work at in
    let b = at_most_zero bounding at (bounding_at c.args.sexps.now c.args.top.now c.args.body) in
    let d = the_truth bounding at in
    let p = err_from_is_err_and c.from_residual.result c.from_residual.ensures.1 in
    rw (p.1, p.2) (operands.none_reached at disjunction w x b d c.args.maker.now c.in_err-reach.field-0.0 c.in_err-reach.ensures.does)

pub returns-in_err-compared-clause-walks : goal.returns-in_err-compared-clause-walks
returns-in_err-compared-clause-walks c =
    let at = place_of c.args.place in
    let w = at_most_zero as_work at (work_at c.args.sexps.now c.args.top.now c.args.body) in
    let x = the_truth as_work at in
    let b = at_most_zero bounding at (bounding_at c.args.sexps.now c.args.top.now c.args.body) in
    let d = the_truth bounding at in
    let p = err_from_is_err_and c.from_residual-in_err-compared.result c.from_residual-in_err-compared.ensures.1 in
    rw (p.1, p.2) (operands.first_fails at disjunction w x b d c.args.maker.now c.reach.new.self c.in_err-compared.field-0.0 c.in_ok-reach.ensures.does c.in_err-compared.ensures.walks)

pub returns-in_err-truth-clause-walks : goal.returns-in_err-truth-clause-walks
returns-in_err-truth-clause-walks c =
    let at = place_of c.args.place in
    let w = at_most_zero as_work at (work_at c.args.sexps.now c.args.top.now c.args.body) in
    let x = the_truth as_work at in
    let b = at_most_zero bounding at (bounding_at c.args.sexps.now c.args.top.now c.args.body) in
    let d = the_truth bounding at in
    let p = err_from_is_err_and c.from_residual-in_err-truth.result c.from_residual-in_err-truth.ensures.1 in
    rw (p.1, p.2) (operands.second_fails at disjunction w x b d c.args.maker.now c.reach.new.self c.compared.new.maker c.in_ok-compared.compared c.in_err-truth.field-0.0 c.in_ok-reach.ensures.does c.in_ok-compared.ensures.walks (c.in_err-truth.ensures.walks))

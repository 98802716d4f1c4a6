use Rattle.std.proofs.Common.{[]}
use Rattle.std.proofs.lemmas.Result.{err_from_is_err_and}
use Rattle.script_model.specs.Reading.{truth}
use Rattle.script_model.specs.Declared.{bounding_operation}
use Rattle.script_forms.specs.Unfolded.{operation_tree}
use Rattle.script_forms.specs.Work.{operator_events}
use Rattle.smt_sexp.specs.Views.{place_of}
use Rattle.value_build.specs.Values.{IsValue}
use Rattle.problem_build.proofs.Operands as operands
use Rattle.problem_build.proofs.goal.truth.Goals as goal

pub operate-requires : goal.operate-requires
operate-requires c = ([], [], tt)

pub returns-clause-walks : goal.returns-clause-walks
returns-clause-walks c =
    let at = place_of c.args.place in
    operands.reached_then c.args.maker.now c.reach.new.self c.operate.new.self (operator_events at truth []) (IsValue c.operate.new.self (operation_tree at truth []) (bounding_operation truth [])) c.operate.result
    c.in_ok-reach.ensures.does (c.operate.ensures.does [] [] tt)

pub returns-in_err-reach-clause-walks : goal.returns-in_err-reach-clause-walks
returns-in_err-reach-clause-walks c =
    let p = err_from_is_err_and c.from_residual.result c.from_residual.ensures.1 in
    rw (p.1, p.2) (operands.unreached c.args.maker.now (operator_events (place_of c.args.place) truth []) c.in_err-reach.field-0.0 c.in_err-reach.ensures.does)

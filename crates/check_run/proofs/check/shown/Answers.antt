use Rattle.std.proofs.lemmas.Result.{IfOk-weaker}
use Rattle.check_run.proofs.Verdicts.{shown_unsat, shown_point, shown_left}
use Rattle.check_run.proofs.check.shown.Goals as goal

pub returns-in-Unsat : goal.returns-in-Unsat
returns-in-Unsat c = IfOk-weaker c.confirmed_unsat.result _ _ (λ text e. shown_unsat text.items c.in-Unsat.margin_bits c.args.verdict c.in-Unsat.is e) c.confirmed_unsat.ensures

pub returns-in-Point : goal.returns-in-Point
returns-in-Point c = IfOk-weaker c.confirmed_delta_sat.result _ _ (λ text e. shown_point text.items c.in-Point.delta_bits c.args.verdict c.in-Point.is e) c.confirmed_delta_sat.ensures

pub returns-in-Left : goal.returns-in-Left
returns-in-Left c = IfOk-weaker c.left_open.result _ _ (λ text e. shown_left text.items c.in-Left.boxes c.args.verdict c.in-Left.is e) c.left_open.ensures

use Rattle.std.proofs.Common.{[]}
use Rattle.problem_session.specs.Session.{problems_of}
use Rattle.script_reading.specs.Faults.{session_fault}
use Rattle.check_run.specs.Can.{CanPlan, OfSession}
use Rattle.check_run.proofs.Running.{run_session, run_halted}
use Rattle.dpoly.proofs.top.run_plan.Goals as goal

pub returns-in-Ok-clause-course : goal.returns-in-Ok-clause-course
returns-in-Ok-clause-course g c script cert_in parts tells =
    run_session c.args.asked.bound c.args.asked.script.now script (λ ps. CanPlan ps c.args.asked.delta_bits c.args.asked.margin_bits) [] _ _ _ _
    (problems_of c.in-Ok.session) c.in-Ok.ensures.script tells c.plan_session.ensures.ends

pub returns-in-Err-clause-course : goal.returns-in-Err-clause-course
returns-in-Err-clause-course g c script cert_in parts tells =
    run_halted (session_fault c.args.asked.bound) c.args.asked.script.now script (OfSession c.args.asked.bound script (λ ps. CanPlan ps c.args.asked.delta_bits c.args.asked.margin_bits)) [] _ _ _ _
    c.in-Err.stop c.in-Err.ensures.script tells c.end_halted.ensures.ends

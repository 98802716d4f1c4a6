use Rattle.std.proofs.Common.{[]}
use Rattle.command_line.specs.Seen.{seen_minimize}
use Rattle.poly_graph.specs.ProblemViews.{problem_of}
use Rattle.script_forms.specs.Atoms.{goal_atom}
use Rattle.script_reading.specs.Faults.{script_fault}
use Rattle.script_reading.specs.Reader.{commands_of}
use Rattle.check_run.specs.Can.{OfProblem}
use Rattle.check_run.specs.Minimized.{CanMinimize}
use Rattle.check_run.proofs.Bounds.{run_minimize}
use Rattle.check_run.proofs.Running.{run_halted}
use Rattle.dpoly.proofs.top.run_minimize.Goals as goal

pub returns-in-Ok-clause-course : goal.returns-in-Ok-clause-course
returns-in-Ok-clause-course g c script cert_in parts tells =
    run_minimize c.args.asked.options.bound c.args.asked.script.now script (seen_minimize c.args.asked) _ _ _ _ (problem_of c.in-Ok.read.0) c.in-Ok.read.1 c.in-Ok.ensures.script tells c.in-Ok.ensures.goal c.minimize_script.ensures.ends

pub returns-in-Err-clause-course : goal.returns-in-Err-clause-course
returns-in-Err-clause-course g c script cert_in parts tells =
    run_halted (script_fault c.args.asked.options.bound) c.args.asked.script.now script
    (OfProblem c.args.asked.options.bound script (λ p. CanMinimize (goal_atom (commands_of c.args.asked.options.bound script)) p (seen_minimize c.args.asked))) [] _ _ _ _
    c.in-Err.stop c.in-Err.ensures.script tells c.end_halted.ensures.ends

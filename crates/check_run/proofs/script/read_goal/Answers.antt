use Rattle.check_run.proofs.Single.{goal_of_script}
use Rattle.check_run.proofs.Within.{problem_within}
use Rattle.check_run.proofs.script.read_goal.Goals as goal

pub returns-in-Ok-clause-within : goal.returns-in-Ok-clause-within
returns-in-Ok-clause-within g c = problem_within c.args.bound c.args.bytes.now c.in-Ok.read.0 c.in-Ok.ensures.0

pub returns-in-Ok-clause-atom : goal.returns-in-Ok-clause-atom
returns-in-Ok-clause-atom g c = goal_of_script c.args.bound c.args.bytes.now c.in-Ok.read.0 c.in-Ok.ensures.0 c.in-Ok.read.1 c.in-Ok.ensures.1

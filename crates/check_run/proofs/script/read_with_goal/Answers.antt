use Rattle.problem_session.specs.Session.{problems_of}
use Rattle.script_reading.proofs.Pairs.{session_goes_on}
use Rattle.check_run.proofs.Single.{goal_of_session}
use Rattle.check_run.proofs.Within.{session_within}
use Rattle.check_run.proofs.script.read_with_goal.Goals as goal

pub returns-in-Ok-clause-goes_on : goal.returns-in-Ok-clause-goes_on
returns-in-Ok-clause-goes_on g c = session_goes_on c.args.bound c.args.bytes.now (problems_of c.in-Ok.read.session) c.in-Ok.ensures.session

pub returns-in-Ok-clause-within : goal.returns-in-Ok-clause-within
returns-in-Ok-clause-within g c = session_within c.args.bound c.args.bytes.now c.in-Ok.read.session c.in-Ok.ensures.session

pub returns-in-Ok-clause-atom : goal.returns-in-Ok-clause-atom
returns-in-Ok-clause-atom g c = goal_of_session c.args.bound c.args.bytes.now c.in-Ok.read.session c.in-Ok.ensures.session c.in-Ok.read.goal c.in-Ok.ensures.goal

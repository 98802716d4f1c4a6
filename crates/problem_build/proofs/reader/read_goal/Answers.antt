use Rattle.poly_graph.specs.ProblemViews.{problem_of}
use Rattle.problem_build.proofs.BothReadings.{fault_is, goal_had}
use Rattle.problem_build.proofs.reader.read_goal.Goals as goal

pub returns-in-Ok-rooted_goal : goal.returns-in-Ok-rooted_goal
returns-in-Ok-rooted_goal c =
    goal_had c.args.bound c.args.bytes.now c.in-Err-Fault.written (fault_is c.in-Err-Fault.field-0-is c.in-Err-Fault.ensures) (problem_of c.in-Ok-rooted_goal.read.0) c.in-Ok-rooted_goal.read.1 c.in-Ok-rooted_goal.ensures

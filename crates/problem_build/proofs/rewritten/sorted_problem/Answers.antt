use Rattle.smt_script.specs.Views.{commands_in}
use Rattle.problem_build.proofs.Reading.{whole_built}
use Rattle.problem_build.proofs.WithRoots.{clean_sorted}
use Rattle.problem_build.proofs.rewritten.sorted_problem.Goals as goal

pub goal_of-goal-requires : goal.goal_of-goal-requires
goal_of-goal-requires c =
    let made = c.in_ok-problem.ensures in
    (c.args.bound, whole_built c.args.bound (commands_in c.args.script.now) c.in_ok-check_script.ensures c.in_ok-problem.problem c.axes.ensures.whole made.lean made.order made.ends made.builds.1)

pub returns : goal.returns
returns c =
    let script = commands_in c.args.script.now in
    let made = c.in_ok-problem.ensures in (
      clean_sorted c.args.bound script c.in_ok-check_script.ensures made.builds.0,
      whole_built c.args.bound script c.in_ok-check_script.ensures c.in_ok-problem.problem c.axes.ensures.whole made.lean made.order made.ends made.builds.1,
      c.goal_of-goal.ensures,
    )

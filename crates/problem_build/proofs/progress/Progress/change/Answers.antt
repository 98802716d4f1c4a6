use Rattle.smt_script.specs.Views.{commands_in}
use Rattle.problem_build.proofs.Changed.{ended_changes}
use Rattle.problem_build.proofs.progress.Progress.change.Goals as goal

pub returns-clause-changes : goal.returns-clause-changes
returns-clause-changes c = λ p s.
    ended_changes c.args.bound (commands_in c.args.script.now) c.requires.sorted p c.args.self.now.maker c.go_on.new.self.maker c.change_since.new.self.maker c.extent-kept.result c.change_since.result c.extent-kept.ensures s
    c.in_ok-go_on.ensures.1 c.change_since.ensures.changes c.change_since.ensures.same

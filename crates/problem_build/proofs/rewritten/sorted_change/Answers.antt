use Rattle.smt_script.specs.Views.{commands_in}
use Rattle.problem_build.proofs.WithRoots.{change_sorted, starts_any}
use Rattle.problem_build.proofs.rewritten.sorted_change.Goals as goal

pub returns : goal.returns
returns c = change_sorted c.args.bound (commands_in c.args.script.now) c.in_ok-check_script.ensures c.change.new.self.maker.made c.change.result
    (λ p. c.change.ensures.changes p (starts_any c.new-progress.result.maker.made c.new-progress.ensures.starts p))

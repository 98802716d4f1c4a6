use Rattle.std.proofs.Common.{refl}
use Rattle.sort_check.specs.Views.{theory_names}
use Rattle.sort_check.proofs.commands.follow.Goals as goal

pub returns-in_ok-open-in-Push : goal.returns-in_ok-open-in-Push
returns-in_ok-open-in-Push c = λ l h. rw c.in-Push.is (c.in_ok-open-in-Push.ensures (theory_names c.args.theory) c.args.sexps.now l h, refl)

pub returns-in-Pop : goal.returns-in-Pop
returns-in-Pop c = λ l h. rw c.in-Pop.is (c.close.ensures (theory_names c.args.theory) c.args.sexps.now l h, refl)

pub returns-in_ok-scope-in-Reset : goal.returns-in_ok-scope-in-Reset
returns-in_ok-scope-in-Reset c = λ l h. rw c.in-Reset.is (c.in_ok-scope-in-Reset.ensures c.args.sexps.now, refl)

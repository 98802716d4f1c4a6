-- How many states stayed open or stuck.
use Rattle.std.specs.Prelude.{ℕ, ◌≤◌}
use Rattle.cert_check.specs.declared.checker.Stage.{Stage}
use Rattle.cert_check.specs.declared.checker.Stage.TheVariants.{InWork, Stopped}
use Rattle.cert_check.specs.declared.due.Due.{Due}
use Rattle.cert_check.specs.declared.due.Due.TheVariants as due
use Rattle.cert_check.specs.declared.due.Value.TheVariants as kept
use Rattle.cert_check.specs.declared.work.Work.{Work}
use Rattle.cert_check.specs.declared.work.Work.TheVariants as work

-- where this is due
abbrev pub stays_in : Due → ℕ
stays_in (due.Tree c t n) = n
stays_in (due.End c n) = n
stays_in (due.Nothing s (kept.Left Ls n)) = n
stays_in d = 0

-- in the tree in work
abbrev pub stays_in_work : Work → ℕ
stays_in_work (work.Alone d) = stays_in d
stays_in_work (work.Header d) = stays_in d
stays_in_work (work.Inside d) = stays_in d
stays_in_work w = 0

-- at most one for each of so many lines
abbrev pub StaysWithin : ℕ → Stage → Type 0
StaysWithin lines (InWork w) = stays_in_work w ≤ lines
StaysWithin lines (Stopped f) = Unit {0}

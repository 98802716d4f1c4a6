use Rattle.std.proofs.Common.{drop}
use Rattle.check_run.proofs.Verdicts.{ShownSoFar}
use Rattle.check_run.proofs.check.all_shown.Given as goal

-- of the verdicts behind the index nothing is told yet
abbrev pub invariant-loop-verdict : goal.invariant-loop-verdict
invariant-loop-verdict l = ShownSoFar l.verdicts (drop l.verdict-index l.verdicts) l.text.items

use Rattle.std.proofs.Common.{◌≡◌, List, length}
use Rattle.smt_script.specs.Levels.{opened}
use Rattle.smt_script.specs.declared.command.Command.{Command}
use Rattle.sort_check.specs.Single.{Opens}
use Rattle.sort_check.proofs.force.open.Given as goal

abbrev pub invariant-loop-level : goal.invariant-loop-level
invariant-loop-level l = (force : List Command) → l.before ≡ length force → Opens force l.fn.marks.items l.marks.items (opened l._level)

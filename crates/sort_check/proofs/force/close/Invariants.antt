use Rattle.smt_script.specs.Levels.{closed}
use Rattle.sort_check.specs.Single.{Closes}
use Rattle.sort_check.proofs.force.close.Given as goal

abbrev pub invariant-loop-level : goal.invariant-loop-level
invariant-loop-level l = Closes l.fn.force.items l.fn.marks.items l.force.items l.marks.items (closed l._level)

use Rattle.smt_script.specs.Levels.{closed}
use Rattle.sort_check.specs.Scopes.{Passes}
use Rattle.sort_check.proofs.scope.Scope.close.Given as goal

abbrev pub invariant-loop-level : goal.invariant-loop-level
invariant-loop-level l = Passes l.fn.self l.self (closed l._level)

use Rattle.smt_script.specs.Levels.{opened}
use Rattle.sort_check.specs.Scopes.{Passes}
use Rattle.sort_check.proofs.scope.Scope.open.Given as goal

abbrev pub invariant-loop-level : goal.invariant-loop-level
invariant-loop-level l = Passes l.fn.self l.self (opened l._level)

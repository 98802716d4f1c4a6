use Rattle.std.proofs.Common.{◌≡◌, ◌++◌, replicate}
use Rattle.value_build.proofs.gather.append.Given as goal

abbrev pub invariant-loop : goal.invariant-loop
invariant-loop l = l.factors.items ≡ l.fn.factors.items ++ replicate l.counter l.group.factor

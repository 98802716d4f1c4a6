use Rattle.std.proofs.lemmas.Grind.{common_steps}
use Rattle.std.proofs.Common.{arith, rules}
use Rattle.cover_rule.proofs.narrowing.none_leaves_nothing.Goals as goal

pub returns-then-not-leaves_some-clause-none : goal.returns-then-not-leaves_some-clause-none
returns-then-not-leaves_some-clause-none c = grind (arith, common_steps)

pub returns-then-not-leaves_some-clause-work : goal.returns-then-not-leaves_some-clause-work
returns-then-not-leaves_some-clause-work c = search rules

pub returns-clause-none : goal.returns-clause-none
returns-clause-none c = grind (arith, common_steps)

pub returns-clause-work : goal.returns-clause-work
returns-clause-work c = search rules

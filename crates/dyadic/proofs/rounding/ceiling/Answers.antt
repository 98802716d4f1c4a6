use Rattle.std.proofs.Common.{rules}
use Rattle.dyadic.proofs.rounding.ceiling.Goals as goal

pub returns-then-from-extra-clause-few_bits : goal.returns-then-from-extra-clause-few_bits
returns-then-from-extra-clause-few_bits c = search rules

pub returns-then-from-extra-clause-enough : goal.returns-then-from-extra-clause-enough
returns-then-from-extra-clause-enough c = search rules

pub returns-then-from-extra-clause-least : goal.returns-then-from-extra-clause-least
returns-then-from-extra-clause-least c = search rules

pub returns-else-from-extra-clause-few_bits : goal.returns-else-from-extra-clause-few_bits
returns-else-from-extra-clause-few_bits c = search rules

pub returns-else-from-extra-clause-enough : goal.returns-else-from-extra-clause-enough
returns-else-from-extra-clause-enough c = search rules

pub returns-else-from-extra-clause-least : goal.returns-else-from-extra-clause-least
returns-else-from-extra-clause-least c = search rules

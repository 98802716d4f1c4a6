use Rattle.cert_join.proofs.RuleWords.{number_past}
use Rattle.cert_join.proofs.line.number_at.Goals as goal

pub returns-then-place-numbers : goal.returns-then-place-numbers
returns-then-place-numbers c = number_past c.args.numbers.now c.args.named c.if-place-numbers.true

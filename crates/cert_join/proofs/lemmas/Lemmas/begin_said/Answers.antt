use Rattle.cert_join.proofs.LemmaLines.{next_begun}
use Rattle.cert_join.proofs.lemmas.Lemmas.begin_said.Goals as goal

pub returns : goal.returns
returns c there = next_begun c.args.numbers.now c.args.self.now c.begin.new.self _ _ _ there c.begin.ensures

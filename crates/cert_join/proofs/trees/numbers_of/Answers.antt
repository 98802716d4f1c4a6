use Rattle.std.proofs.Common.{◌∙◌, ℕ, Vec, Global, ap}
use Rattle.cert_join.proofs.Stepping.{numbers_none, numbers_read}
use Rattle.cert_join.proofs.trees.numbers_of.Goals as goal

pub returns-then-part-numbers : goal.returns-then-part-numbers
returns-then-part-numbers c = numbers_none c.args.numbers.now c.args.part c.if-part-numbers.true

pub returns : goal.returns
returns c = c.deref.ensures.value ∙ ap (λ (v : Vec ℕ Global). v.items) c.index-numbers-part.is ∙ numbers_read c.args.numbers.now c.args.part _ c.if-part-numbers.false

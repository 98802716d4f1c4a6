use Rattle.std.proofs.Common.{arith}
use Rattle.cert_join.proofs.Sorting.{left_there}
use Rattle.cert_join.proofs.trees.left_at.Goals as goal

pub returns-then-part-cursors : goal.returns-then-part-cursors
returns-then-part-cursors c = λ there l e. absurd (omega (arith, there, c.if-part-cursors.true))

pub returns : goal.returns
returns c = λ there l e. left_there _ _ _ c.text.result.now _ there c.index-cursors-part.is c.text.ensures c.left_of.ensures l e

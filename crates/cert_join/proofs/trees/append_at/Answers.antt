use Rattle.std.proofs.Common.{arith}
use Rattle.cert_join.proofs.Sorting.{line_appended}
use Rattle.cert_join.proofs.trees.append_at.Goals as goal

pub returns-then-part-cursors : goal.returns-then-part-cursors
returns-then-part-cursors c = λ there l e s. absurd (omega (arith, there, c.if-part-cursors.true))

pub returns : goal.returns
returns c = line_appended _ _ _ _ _ _ _ _ c.append_renumbered.result c.if-part-cursors.false c.index-cursors-part.is c.numbers_of.ensures c.text.ensures c.append_renumbered.ensures

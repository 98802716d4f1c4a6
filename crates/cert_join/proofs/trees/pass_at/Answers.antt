use Rattle.cert_join.proofs.Passing.{passed_past, passed_read}
use Rattle.cert_join.proofs.trees.pass_at.Goals as goal

pub returns-then-part-cursors : goal.returns-then-part-cursors
returns-then-part-cursors c = passed_read _ _ _ _ c.if-part-cursors.true c.pass.ensures

pub returns-else-part-cursors : goal.returns-else-part-cursors
returns-else-part-cursors c = passed_past _ _ c.if-part-cursors.false

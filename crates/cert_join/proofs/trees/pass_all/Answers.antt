use Rattle.std.proofs.Common.{refl}
use Rattle.cert_join.proofs.Passing.{passed_more, passed_none}
use Rattle.cert_join.proofs.trees.pass_all.Goals as goal

pub loop-part-init : goal.loop-part-init
loop-part-init c d = passed_none _

pub loop-part-preserved : goal.loop-part-preserved
loop-part-preserved c d = passed_more _ _ _ _ _ _ c.loop-part-test.true refl d (c.loop-part.invariant d) c.pass_at.ensures

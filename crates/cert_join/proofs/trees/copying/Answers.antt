use Rattle.std.proofs.Common.{arith}
use Rattle.cert_join.proofs.Stepping.{copied_all}
use Rattle.cert_join.proofs.trees.copying.Goals as goal

pub returns-else-waiting-gt0 : goal.returns-else-waiting-gt0
returns-else-waiting-gt0 c k places text spots d = copied_all k _ _ _ _ _ (omega arith) d

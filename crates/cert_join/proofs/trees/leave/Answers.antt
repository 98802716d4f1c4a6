use Rattle.cert_join.proofs.Standing.{first_part, left_state}
use Rattle.cert_join.proofs.trees.leave.Goals as goal

pub returns : goal.returns
returns c k places same h leave = left_state k _ _ _ _ _ _ _ _ same h (first_part k _ _ _ _ h) leave c.in_ok-take_line.ensures

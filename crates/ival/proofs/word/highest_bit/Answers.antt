use Rattle.std.proofs.Common.{arith}
use Rattle.ival.proofs.Bits.{is_highest}
use Rattle.ival.proofs.word.highest_bit.Goals as goal

pub returns : goal.returns
returns c = let h = is_highest c.args.word c.requires (omega arith) in record { within = h.within; set = h.is-set; above = h.above }

use Rattle.ival.proofs.Bits.{from_kept, from_cleared}
use Rattle.ival.proofs.word.bits_from.Goals as goal

pub returns : goal.returns
returns c = record { kept = λ i h l. from_kept c.args.word c.args.k i c.requires h l; cleared = λ i h. from_cleared c.args.word c.args.k i c.requires h }

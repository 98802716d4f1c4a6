use Rattle.ival.proofs.Bits.{below_kept, below_cleared}
use Rattle.ival.proofs.word.bits_below.Goals as goal

pub returns : goal.returns
returns c = record { kept = λ i h. below_kept c.args.word c.args.k i c.requires h; cleared = λ i h. below_cleared c.args.word c.args.k i c.requires h }

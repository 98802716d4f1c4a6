use Rattle.dyadic.proofs.Division.{lead_apart}
use Rattle.dyadic.proofs.quotient.bits_up.Goals as goal

pub overflow_sub-most : goal.overflow_sub-most
overflow_sub-most c = (lead_apart c.args.n c.args.d c.requires.few_bits c.requires.positive c.requires.few_bits_below).0

use Rattle.std.proofs.Common.{arith}
use Rattle.dyadic.proofs.Shifts.{two_spare, spare_few, spare_many}
use Rattle.dyadic.proofs.number.spare_bits.Goals as goal

pub overflow_sub-size : goal.overflow_sub-size
overflow_sub-size c = let two = two_spare c.args.size c.requires.some c.requires.few in two.0

pub returns : goal.returns
returns c =
    let size = c.args.size in
    let two = two_spare size c.requires.some c.requires.few in
    record {
      within = omega (arith, c.min.ensures);
      short = omega (arith, c.min.ensures, two.1);
      few = spare_few size c.min.result c.requires.some c.requires.few (omega (arith, c.min.ensures));
      many = λ h. spare_many size c.min.result c.requires.some c.requires.few (omega (arith, c.min.ensures, h));
    }

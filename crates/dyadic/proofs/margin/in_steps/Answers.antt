use Rattle.dyadic.proofs.Margins.{steps_of}
use Rattle.dyadic.proofs.margin.in_steps.Goals as goal

pub returns : goal.returns
returns c =
    let v = c.args.v in
    steps_of v.odd v.shift c.args.bits c.min-shift.result c.from.result c.from.ensures v.spelled.few_bits c.requires.fine c.requires.some c.requires.few c.min-shift.ensures

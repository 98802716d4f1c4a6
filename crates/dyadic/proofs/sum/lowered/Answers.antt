use Rattle.std.proofs.Common.{◌^◌, ◌∙◌}
use Rattle.dyadic.proofs.Shifts.{shifted, shr_capped}
use Rattle.dyadic.proofs.sum.lowered.Goals as goal

pub returns : goal.returns
returns c =
    let m = c.args.mantissa in
    shifted m (2 ^ c.min.result) (let h = c.ranges.mantissa in h.sfits) ∙ shr_capped m c.args.by c.min.result c.requires c.min.ensures

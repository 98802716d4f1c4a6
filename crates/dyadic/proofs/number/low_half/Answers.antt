use Rattle.std.proofs.Common.{◌^◌, arith}
use Rattle.std.proofs.lemmas.Int.{ints}
use Rattle.dyadic.proofs.Shifts.{shr_below, shr_above, shifted}
use Rattle.dyadic.proofs.number.low_half.Goals as goal

pub returns : goal.returns
returns c =
    let m = c.args.m in
    let below = shr_below m (2 ^ 32) (omega arith) in
    let above = shr_above m (2 ^ 32) (omega arith) in
    omega (arith, ints, shifted m (2 ^ 32) (let h = c.ranges.m in h.sfits), below, above, c.requires)

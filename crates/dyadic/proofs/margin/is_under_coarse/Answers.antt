use Rattle.std.proofs.Common.{◌^◌, ◌-◌}
use Rattle.dyadic.specs.Size.{units}
use Rattle.dyadic.proofs.Margins.{under_by, coarse_under, coarse_over, coarse_above, never, both}
use Rattle.dyadic.proofs.margin.is_under_coarse.Goals as goal

pub returns-in-true-true : goal.returns-in-true-true
returns-in-true-true c =
    let v = units c.args.v in
    under_by _ _ _ _ c.args.n c.args.d v (2 ^ (120 - c.args.bits)) _ c.in-true-true.is-0 c.in-true-true.is-1
    (both c.is_over_whole.ensures (coarse_over c.args.n c.args.d c.whole_of-whole.result v c.args.bits c.whole_of-whole.ensures.value c.requires.few))

pub returns-in-false-true : goal.returns-in-false-true
returns-in-false-true c =
    let v = units c.args.v in
    under_by _ _ _ _ c.args.n c.args.d v (2 ^ (120 - c.args.bits)) _ c.in-false-true.is-0 c.in-false-true.is-1
    (never (coarse_above c.args.n c.args.d c.whole_of-whole.result v c.args.bits c.whole_of-whole.ensures.value c.whole_of-whole.ensures.some c.requires.positive c.requires.some c.requires.few))

pub returns-in-false-false : goal.returns-in-false-false
returns-in-false-false c =
    let v = units c.args.v in
    under_by _ _ _ _ c.args.n c.args.d v (2 ^ (120 - c.args.bits)) _ c.in-false-false.is-0 c.in-false-false.is-1
    (both c.is_under_whole.ensures (coarse_under c.args.n c.args.d c.whole_of-whole.result v c.args.bits c.whole_of-whole.ensures.value c.requires.few))

use Rattle.std.proofs.Common.{◌≡◌, ◌*◌, ◌^◌, ◌∙◌, arith}
use Rattle.root_rewriting.proofs.Roundings.{long_below, long_short, short_below}
use Rattle.root_rewriting.proofs.parts.size_below.Goals as goal

pub invariant_of-result : goal.invariant_of-result
invariant_of-result c = record { short = long_short c.args.size.odd c.args.size.shift c.if-size-ge-PART_BITS.true c.args.size.spelled }

pub returns-then-size-ge-PART_BITS : goal.returns-then-size-ge-PART_BITS
returns-then-size-ge-PART_BITS c = long_below c.args.size.odd c.args.size.shift c.if-size-ge-PART_BITS.true

pub returns : goal.returns
returns c =
    let one : c.quotient_below.result * 2 ^ 0 ≡ c.quotient_below.result = omega arith in
    one ∙ c.quotient_below.ensures ∙ short_below c.args.size.odd c.args.size.shift c.if-size-ge-PART_BITS.false

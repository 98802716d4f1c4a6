use Rattle.std.proofs.Common.{◌≡◌, ◌*◌, ◌^◌, ◌∙◌, arith}
use Rattle.root_rewriting.proofs.Roundings.{long_above, long_short, short_above}
use Rattle.root_rewriting.proofs.parts.size_above.Goals as goal

pub invariant_of-result : goal.invariant_of-result
invariant_of-result c = record { short = long_short c.args.size.odd c.args.size.shift c.if-size-ge-PART_BITS.true c.args.size.spelled }

pub returns-then-size-ge-PART_BITS : goal.returns-then-size-ge-PART_BITS
returns-then-size-ge-PART_BITS c = long_above c.args.size.odd c.args.size.shift c.if-size-ge-PART_BITS.true

pub returns : goal.returns
returns c =
    let one : c.quotient_above.result * 2 ^ 0 ≡ c.quotient_above.result = omega arith in
    one ∙ c.quotient_above.ensures ∙ short_above c.args.size.odd c.args.size.shift c.if-size-ge-PART_BITS.false

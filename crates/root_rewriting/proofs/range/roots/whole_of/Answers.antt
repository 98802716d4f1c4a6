use Rattle.std.proofs.Common.{◌∙◌, arith, sym}
use Rattle.root_rewriting.proofs.Rooted.{ceiling_high, shift_few, whole_exact, whole_more}
use Rattle.root_rewriting.proofs.range.roots.whole_of.Goals as goal

pub overflow_shl-result : goal.overflow_shl-result
overflow_shl-result c = shift_few c.args.size.odd c.args.size.shift c.args.size.spelled c.if-size-ge-UNIT_BITS.true c.requires

pub returns-then-size-ge-UNIT_BITS-clause-value : goal.returns-then-size-ge-UNIT_BITS-clause-value
returns-then-size-ge-UNIT_BITS-clause-value c = let h = ceiling_high c.args.size.odd c.args.size.shift c.if-size-ge-UNIT_BITS.true c.requires in
    let few = h.0 in omega (arith, few) ∙ sym h.1

pub returns-then-size-ge-UNIT_BITS-clause-few : goal.returns-then-size-ge-UNIT_BITS-clause-few
returns-then-size-ge-UNIT_BITS-clause-few c = let h = ceiling_high c.args.size.odd c.args.size.shift c.if-size-ge-UNIT_BITS.true c.requires in
    let few = h.0 in omega (arith, few)

pub returns-then-from-below-clause-value : goal.returns-then-from-below-clause-value
returns-then-from-below-clause-value c = whole_exact c.args.size.odd c.args.size.shift c.from-odd.result c.from.result c.if-size-ge-UNIT_BITS.false c.from-odd.ensures c.from.ensures c.from-odd.type_inv c.if-from-below.true

pub returns-else-from-below-clause-value : goal.returns-else-from-below-clause-value
returns-else-from-below-clause-value c = whole_more c.args.size.odd c.args.size.shift c.from-odd.result c.from.result c.if-size-ge-UNIT_BITS.false c.from-odd.ensures c.from.ensures c.from-odd.type_inv c.if-from-below.false

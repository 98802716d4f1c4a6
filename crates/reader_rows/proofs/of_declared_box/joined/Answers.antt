use Rattle.std.proofs.Common.{arith, subst, ℕ, ◌<◌, length, slice_index_or, List}
use Rattle.reader_rows.proofs.of_declared_box.joined.Goals as goal

pub all-requires : goal.all-requires
all-requires c = subst (λ (xs : List ℕ). (k d : ℕ) → k < length xs → slice_index_or xs k d < length c.args.table.now) c.deref-part-items.ensures.value (λ k d l. c.loop-part.invariant k d (omega (arith, l, c.loop-part-test.false)))

use Rattle.std.proofs.Common.{◌≡◌}
use Rattle.lemma_shelf.proofs.shelf.Shelf.read_after.Given as goal

abbrev pub invariant-loop-place : goal.invariant-loop-place
invariant-loop-place g l =
    (l.mark ≡ l.initial.mark) × (goal.iterator-loop-place g).can_next l.place-iterator × (goal.iterator-loop-place g).is_finite l.place-iterator

use Rattle.std.proofs.Common.{◌≡◌, ◌-◌, ◌^◌}
use Rattle.lemma_shelf.specs.Lemmas.{Appends}
use Rattle.lemma_shelf.proofs.reader.ShelfReaderLemmaSource.more.Given as goal

abbrev pub invariant-loop-lemma : goal.invariant-loop-lemma
invariant-loop-lemma g l = record {
  shelf : l.self.shelf ≡ l.initial.self.shelf;
  appended : Appends g.J.Subject.problem g.J.Subject.margins l.initial.list.items l.list.items;
}

abbrev pub decreases-loop-lemma : goal.decreases-loop-lemma
decreases-loop-lemma g l = 2 ^ 64 - l.self.mark.next

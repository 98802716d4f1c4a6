use Rattle.std.proofs.Common.{arith, sym, subst}
use Rattle.lemma_shelf.specs.Lemmas.{IsLemmaOf}
use Rattle.lemma_shelf.proofs.Grown.{appends_one}
use Rattle.lemma_shelf.proofs.reader.ShelfReaderLemmaSource.more.Goals as goal

pub loop-lemma-smaller : goal.loop-lemma-smaller
loop-lemma-smaller g c = omega (arith, c.in-Some.ensures.rises, c.in-Some.ensures.ends)

pub loop-lemma-preserved : goal.loop-lemma-preserved
loop-lemma-preserved g c = record {
  shelf = c.loop-lemma.invariant.shelf;
  appended = appends_one g.J.Subject.problem g.J.Subject.margins c.args.list.now.items c.loop-lemma.list.items c.push.new.self.items c.in_ok-try_clone.field-0 c.loop-lemma.invariant.appended
      (subst (IsLemmaOf g.J.Subject.problem g.J.Subject.margins) (sym c.in_ok-try_clone.ensures) c.in-Some.ensures.lemma) c.in_ok-push.ensures.items;
}

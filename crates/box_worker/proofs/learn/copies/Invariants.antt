use Rattle.std.proofs.Common.{◌≡◌, take}
use Rattle.box_worker.proofs.learn.copies.Given as goal

abbrev pub invariant-loop-lemma : goal.invariant-loop-lemma
invariant-loop-lemma l = l.all.items ≡ take l.lemma-index l.lemmas

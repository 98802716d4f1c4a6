use Rattle.std.proofs.Common.{◌≡◌, drop}
use Rattle.box_worker.specs.Ended.{first_covering}
use Rattle.box_worker.proofs.work.first_covering.Given as goal

-- the lemmas that are left decide
abbrev pub invariant-loop-lemma : goal.invariant-loop-lemma
invariant-loop-lemma l = first_covering l.lemmas l.state ≡ first_covering (drop l.lemma-index l.lemmas) l.state

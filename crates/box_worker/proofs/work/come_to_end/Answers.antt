use Rattle.std.proofs.Common.{inl, subst}
use Rattle.box_worker.specs.Ended.{AtOnce}
use Rattle.box_worker.proofs.Works.{at_once_problem}
use Rattle.box_worker.proofs.work.come_to_end.Goals as goal

pub returns-in-Some-clause-comes : goal.returns-in-Some-clause-comes
returns-in-Some-clause-comes c = inl (subst (AtOnce c.args.lemmas.now c.args.patch c.at_once.new.patch) c.in-Some.is c.in_ok-ended.ensures)

pub returns-in-Some-clause-problem : goal.returns-in-Some-clause-problem
returns-in-Some-clause-problem c =
    at_once_problem c.args.lemmas.now c.args.patch c.at_once.new.patch c.in-Some.ended (subst (AtOnce c.args.lemmas.now c.args.patch c.at_once.new.patch) c.in-Some.is c.in_ok-ended.ensures)

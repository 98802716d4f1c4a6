use Rattle.std.proofs.Common.{sym, subst}
use Rattle.cert_read.specs.CertLine.{CertLine}
use Rattle.cert_model.specs.Accepted.{next}
use Rattle.poly_graph.specs.ProblemViews.{problem_of}
use Rattle.cert_check.specs.declared.due.Due.TheVariants.{Next}
use Rattle.cert_check.specs.Dues.{IsOutcome, due_of}
use Rattle.cert_check.proofs.lemma.next_line.Goals as goal

pub returns-in-Lemma-clause-comes : goal.returns-in-Lemma-clause-comes
returns-in-Lemma-clause-comes c b =
    let p = c.args.problem.now in
    subst (λ (l : CertLine). IsOutcome p c.first_axis.result (next (problem_of p) b (due_of p (Next c.args.cover)) l)) (sym c.in-Lemma.ensures) (c.first_axis.ensures.comes b)

pub returns-in-Tree-clause-comes : goal.returns-in-Tree-clause-comes
returns-in-Tree-clause-comes c b =
    let p = c.args.problem.now in
    subst (λ (l : CertLine). IsOutcome p c.main_tree.result (next (problem_of p) b (due_of p (Next c.args.cover)) l)) (sym c.in-Tree.ensures) (c.main_tree.ensures.comes b)

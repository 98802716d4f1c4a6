use Rattle.std.proofs.Common.{sym, subst}
use Rattle.cert_read.specs.CertLine.{CertLine}
use Rattle.cert_model.specs.Accepted.{next}
use Rattle.poly_graph.specs.ProblemViews.{problem_of}
use Rattle.cert_check.specs.declared.due.Due.TheVariants.{Root}
use Rattle.cert_check.specs.Dues.{IsOutcome, due_of}
use Rattle.cert_check.proofs.tree.root_line.Goals as goal

pub returns-in-Rule-clause-comes : goal.returns-in-Rule-clause-comes
returns-in-Rule-clause-comes c b =
    let p = c.args.problem.now in
    subst (λ (l : CertLine). IsOutcome p c.root_rule.result (next (problem_of p) b (due_of p (Root c.args.cover)) l)) (sym c.in-Rule.ensures) (c.root_rule.ensures.comes b)

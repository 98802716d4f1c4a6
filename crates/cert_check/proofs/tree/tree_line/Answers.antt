use Rattle.std.proofs.Common.{sym, subst}
use Rattle.cert_read.specs.CertLine.{CertLine}
use Rattle.cert_model.specs.Accepted.{next}
use Rattle.poly_graph.specs.ProblemViews.{problem_of}
use Rattle.cert_check.specs.declared.due.Due.TheVariants.{Tree}
use Rattle.cert_check.specs.Dues.{IsOutcome, due_of}
use Rattle.cert_check.proofs.tree.tree_line.Goals as goal

pub returns-in-Ok-clause-comes : goal.returns-in-Ok-clause-comes
returns-in-Ok-clause-comes c b =
    let p = c.args.problem.now in
    subst (λ (l : CertLine). IsOutcome p c.main_rule.result (next (problem_of p) b (due_of p (Tree c.args.cover c.args.tree c.args.stayed)) l)) (sym c.in-Ok.ensures.0) (c.main_rule.ensures.comes b)

pub returns-in-Err-clause-comes : goal.returns-in-Err-clause-comes
returns-in-Err-clause-comes c b = c.in-Err.ensures.main b _ _ _ _ _

use Rattle.std.proofs.Common.{sym, subst}
use Rattle.cert_read.specs.declared.line.Line.{Line}
use Rattle.cert_read.specs.Views.{line_of}
use Rattle.cert_model.specs.Due.{version_due}
use Rattle.cert_model.specs.Accepted.{next}
use Rattle.poly_graph.specs.ProblemViews.{problem_of}
use Rattle.cert_check.specs.Dues.{IsOutcome}
use Rattle.cert_check.proofs.header.version_line.Goals as goal

pub returns-in-Version-clause-comes : goal.returns-in-Version-clause-comes
returns-in-Version-clause-comes c p b =
    subst (λ (l : Line). IsOutcome p c.after_version.result (next (problem_of p) b version_due (line_of l))) (sym c.in-Version.is) (c.after_version.ensures.comes p b)

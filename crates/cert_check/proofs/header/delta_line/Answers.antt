use Rattle.std.proofs.Common.{sym, subst}
use Rattle.cert_read.specs.declared.line.Line.{Line}
use Rattle.cert_read.specs.Views.{line_of}
use Rattle.cert_model.specs.Due.{delta_due}
use Rattle.cert_model.specs.Accepted.{next}
use Rattle.poly_graph.specs.ProblemViews.{problem_of}
use Rattle.cert_check.specs.Dues.{IsOutcome}
use Rattle.cert_check.proofs.header.delta_line.Goals as goal

pub returns-in-Delta-clause-comes : goal.returns-in-Delta-clause-comes
returns-in-Delta-clause-comes c p b =
    subst (λ (l : Line). IsOutcome p c.loosenings.result (next (problem_of p) b (delta_due c.args.version c.args.margin) (line_of l))) (sym c.in-Delta.is) (c.loosenings.ensures.comes p b)

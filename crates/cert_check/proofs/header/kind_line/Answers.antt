use Rattle.std.proofs.Common.{sym, subst}
use Rattle.cert_read.specs.declared.line.Line.{Line}
use Rattle.cert_read.specs.Views.{line_of}
use Rattle.cert_model.specs.Due.{kind_due}
use Rattle.cert_model.specs.Accepted.{next}
use Rattle.poly_graph.specs.ProblemViews.{problem_of}
use Rattle.cert_check.specs.States.{loosenings_of}
use Rattle.cert_check.specs.Dues.{IsOutcome}
use Rattle.cert_check.proofs.header.kind_line.Goals as goal

pub returns-in-Cover-clause-comes : goal.returns-in-Cover-clause-comes
returns-in-Cover-clause-comes c b =
    subst (λ (l : Line). IsOutcome c.args.problem.now c.cover.result (next (problem_of c.args.problem.now) b (kind_due (loosenings_of c.args.s)) (line_of l))) (sym c.in-Cover.is)
    (c.cover.ensures.comes c.args.problem.now b)

pub returns-in-Cover-clause-sound : goal.returns-in-Cover-clause-sound
returns-in-Cover-clause-sound c = c.cover.ensures.sound c.args.problem.now

pub returns-in-Point-clause-comes : goal.returns-in-Point-clause-comes
returns-in-Point-clause-comes c b =
    subst (λ (l : Line). IsOutcome c.args.problem.now c.point.result (next (problem_of c.args.problem.now) b (kind_due (loosenings_of c.args.s)) (line_of l))) (sym c.in-Point.is)
    (c.point.ensures.comes b)

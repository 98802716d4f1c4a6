use Rattle.std.proofs.Common.{ap, ◌∙◌}
use Rattle.cert_read.specs.CertLine.{CertLine}
use Rattle.cert_read.specs.Views.{line_of}
use Rattle.poly_graph.specs.ProblemViews.{problem_of}
use Rattle.problem_session.specs.Session.{problems_of}
use Rattle.cert_model.specs.Session.{SessionDue, checks_due, session_next}
use Rattle.cert_check.specs.States.{loosenings_of}
use Rattle.cert_check.specs.Dues.{next_map}
use Rattle.cert_check.specs.Work.{together, lean_work}
use Rattle.cert_check.specs.Works.{checks_from, first_of}
use Rattle.cert_check.proofs.PartLines.{checks_goes}
use Rattle.cert_check.proofs.parts.checks_line.Goals as goal

pub returns-then-count-checks-clause-comes : goal.returns-then-count-checks-clause-comes
returns-then-count-checks-clause-comes c b =
    let t = c.args.part.now in
    ap (λ (l : CertLine). next_map lean_work (next_map (λ (d : SessionDue). together d) (session_next (problem_of (first_of t.session t.problem)) (problems_of (checks_from t.session 1)) b (checks_due (loosenings_of c.args.s)) l))) (ap line_of c.in-Checks.is)
    ∙ checks_goes t (loosenings_of c.args.s) c.in-Checks.count b c.requires.part c.requires.sound (c.if-count-checks.true ∙ c.checks.ensures)

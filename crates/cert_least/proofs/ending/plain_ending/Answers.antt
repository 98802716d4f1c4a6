use Rattle.std.proofs.Common.{Err, subst, sym}
use Rattle.cert_model.specs.Accepted.{reached}
use Rattle.std.specs.Prelude.{Some}
use Rattle.cert_model.specs.Least.{plain_due}
use Rattle.cert_check.specs.declared.fault.CertFault.{CertFault}
use Rattle.cert_least.specs.Courses.{Finishes}
use Rattle.cert_least.proofs.Endings.{plain_ok, plain_err}
use Rattle.cert_least.proofs.ending.plain_ending.Goals as goal

pub returns-in-Ok : goal.returns-in-Ok
returns-in-Ok c a d e = plain_ok a c.args.lines c.args.checker.now.course c.in-Ok.verdict c.in-Ok.ensures d e

pub returns-in-Err : goal.returns-in-Err
returns-in-Err c a d e =
    subst (λ (f : CertFault). Finishes a (Some (reached (plain_due d) c.args.lines)) (Err f)) (sym c.at_line.ensures)
    (plain_err a c.args.lines c.args.checker.now.course c.in-Err.fault c.in-Err.ensures d e)

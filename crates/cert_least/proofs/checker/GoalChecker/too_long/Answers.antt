use Rattle.std.proofs.Common.{subst}
use Rattle.cert_check.specs.declared.fault.CertFault.TheVariants.{TooLong}
use Rattle.cert_least.specs.Checked.{GoalChecked}
use Rattle.cert_least.specs.Courses.{IsCutOff}
use Rattle.cert_least.specs.Judging.{aim_of}
use Rattle.cert_least.proofs.Numbered.{cut_there, cut_on}
use Rattle.cert_least.proofs.checker.GoalChecker.too_long.Goals as goal

pub returns-in-Some : goal.returns-in-Some
returns-in-Some c =
    let i = c.self.inside in
    subst (λ (v : GoalChecked). IsCutOff v.course c.in-Some.fault) c.self.view_is (cut_there i.phase c.in-Some.fault i.checker.course i.lines c.in-Some.ensures)

pub returns-in-None : goal.returns-in-None
returns-in-None c =
    let i = c.self.inside in
    subst (λ (v : GoalChecked). IsCutOff v.course (TooLong 0)) c.self.view_is (cut_on (aim_of i.aim) i.phase i.checker i.lines c.in-None.ensures c.self.invariant.phase)

use Rattle.std.proofs.Common.{subst, sym}
use Rattle.cert_check.specs.declared.fault.CertFault.{CertFault}
use Rattle.cert_least.specs.Courses.{stops_at}
use Rattle.cert_least.specs.Judging.{aim_of}
use Rattle.cert_least.specs.Phases.{course_of}
use Rattle.cert_least.specs.Steps.{HasLed}
use Rattle.cert_least.proofs.Numbered.{over_there, unread_there}
use Rattle.cert_least.proofs.checker.fault_after.Goals as goal

pub returns-in-Some : goal.returns-in-Some
returns-in-Some c x h =
    over_there (aim_of c.args._aim.now) c.args.phase c.in-Some.fault c.args._checker.now.course c.args.lines x c.in-Some.ensures

pub returns-in-None : goal.returns-in-None
returns-in-None c x h =
    let a = aim_of c.args._aim.now in
    subst (λ (f : CertFault). HasLed a (course_of c.args.phase c.args._checker.now.course c.args.lines) x (stops_at f)) (sym c.unread.ensures)
    (unread_there a c.args.phase c.args._checker.now c.args.lines c.in-None.ensures c.requires.sound c.args.fault x h)

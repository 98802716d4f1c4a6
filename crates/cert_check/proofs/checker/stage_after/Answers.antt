use Rattle.std.proofs.Common.{sym, subst}
use Rattle.cert_read.specs.CertLine.{line}
use Rattle.cert_read.specs.Views.{line_of}
use Rattle.cert_check.specs.declared.checker.Stage.{Stage}
use Rattle.cert_check.specs.Stages.{course_of, HasLed}
use Rattle.cert_check.specs.Works.{checks_of}
use Rattle.cert_check.proofs.checker.stage_after.Goals as goal

pub returns-in-InWork-clause-course : goal.returns-in-InWork-clause-course
returns-in-InWork-clause-course c n h =
    let old = c.args.part.now in
    subst (λ (s : Stage). HasLed (checks_of old c.args.bound) (course_of old s c.args.lines) (line (line_of c.args.line.now)) (course_of c.stage_of_work.new.part c.stage_of_work.result n)) (sym c.in-InWork.is)
    (c.stage_of_work.ensures.course n h)

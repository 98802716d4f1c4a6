use Rattle.std.proofs.Common.{subst, sym}
use Rattle.cert_check.specs.Checked.{Checked}
use Rattle.cert_check.specs.Sessions.{FinishesAll}
use Rattle.cert_check.specs.declared.checker.Stage.{Stage}
use Rattle.cert_check.specs.Stages.{course_of}
use Rattle.cert_check.proofs.checker.Checker.finish_all.Goals as goal

pub returns-in-InWork : goal.returns-in-InWork
returns-in-InWork c =
    let i = c.self.inside in
    subst (λ (x : Checked). FinishesAll x.course c.all_endings.result) c.self.view_is
    (subst (λ (s : Stage). FinishesAll (course_of i.part s i.lines) c.all_endings.result) (sym c.in-InWork.is) (c.all_endings.ensures i.part (sym c.deref.ensures.value)))

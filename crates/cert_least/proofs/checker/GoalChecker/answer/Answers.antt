use Rattle.std.proofs.Common.{Ok, Err, subst}
use Rattle.cert_least.specs.Checked.{GoalChecked}
use Rattle.cert_least.specs.Courses.{IsCourseAnswer}
use Rattle.cert_least.specs.Judging.{aim_of}
use Rattle.cert_least.proofs.Numbered.{stops_there, goes_there}
use Rattle.cert_least.proofs.checker.GoalChecker.answer.Goals as goal

pub returns-in-Some : goal.returns-in-Some
returns-in-Some c =
    let i = c.self.inside in
    subst (λ (v : GoalChecked). IsCourseAnswer v.course (Err c.in-Some.fault)) c.self.view_is (stops_there i.phase c.in-Some.fault i.checker.course i.lines c.in-Some.ensures)

pub returns-in-None : goal.returns-in-None
returns-in-None c =
    let i = c.self.inside in
    subst (λ (v : GoalChecked). IsCourseAnswer v.course (Ok tt)) c.self.view_is (goes_there (aim_of i.aim) i.phase i.checker i.lines c.in-None.ensures c.self.invariant.phase)

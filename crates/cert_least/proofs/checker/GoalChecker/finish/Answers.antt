use Rattle.std.proofs.Common.{ap, ◌∙◌, subst}
use Rattle.cert_least.specs.Aims.{Aim}
use Rattle.cert_least.specs.Checked.{GoalChecked}
use Rattle.cert_least.specs.Courses.{Finishes}
use Rattle.cert_least.specs.Phases.{course_of}
use Rattle.cert_least.proofs.Numbered.{same_aim, same_sound}
use Rattle.cert_least.proofs.checker.GoalChecker.finish.Goals as goal

pub returns-clause-verdict : goal.returns-clause-verdict
returns-clause-verdict c = subst (λ (v : GoalChecked). Finishes v.aim v.course c.ending.result) c.self.view_is c.ending.ensures.ending

pub returns-clause-same : goal.returns-clause-same
returns-clause-same c =
    let i = c.self.inside in
    ap (λ (a : Aim). record { aim = a; course = course_of i.phase i.checker.course i.lines }) (same_aim i.aim c.ending.new.aim c.ending.ensures.same) ∙ c.self.view_is

pub invariant_of-self : goal.invariant_of-self
invariant_of-self c =
    let i = c.self.inside in
    record {
      ready = c.ending.ensures.ready;
      phase = same_sound i.aim c.ending.new.aim i.phase i.checker c.ending.ensures.same c.self.invariant.phase;
      few = c.self.invariant.few;
    }

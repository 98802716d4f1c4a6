use Rattle.std.proofs.Common.{[], ◌∷◌, subst, sym}
use Rattle.cert_read.specs.CertLine.{line}
use Rattle.cert_read.specs.Views.{line_of}
use Rattle.cert_check.specs.declared.checker.Stage.{Stage}
use Rattle.cert_check.specs.Checked.{Checked}
use Rattle.cert_check.specs.Checking.{checked_of, IsSoundChecker}
use Rattle.cert_check.specs.Courses.{IsCourseAnswer, Takes}
use Rattle.cert_check.specs.Stages.{course_of, HasLed}
use Rattle.cert_check.specs.Works.{checks_of}
use Rattle.cert_check.proofs.checker.Checker.line.Goals as goal

pub returns : goal.returns
returns c =
    let i = c.self.inside in let said = line (line_of c.args.line.now) in let n = c.one_more-self-inside.result in let t = c.stage_after-stage.new.part in
    let new : Stage → Checked = λ s. checked_of (record { alloc = i.alloc; part = t; bound = i.bound; stage = s; lines = n }) in
    subst (λ (s : Stage). IsCourseAnswer (new s).course c.answer.result → Takes c.args.self.now (said ∷ []) (new s) c.answer.result) (sym c.put.ensures)
    (λ answers.
    subst (λ (old : Checked). Takes old (said ∷ []) (new c.stage_after-stage.result) c.answer.result) c.self.view_is
    (record {
      checks = c.stage_after-stage.ensures.checks i.bound;
      course = subst (λ (s : Stage). HasLed (checks_of i.part i.bound) (course_of i.part s i.lines) said (course_of t c.stage_after-stage.result n)) c.replace-stage.ensures.value
          (c.stage_after-stage.ensures.course n c.one_more-self-inside.ensures.more);
      answers = answers;
    })) c.answer.ensures

pub invariant_of-self : goal.invariant_of-self
invariant_of-self c =
    let i = c.self.inside in let n = c.one_more-self-inside.result in let t = c.stage_after-stage.new.part in
    subst (λ (s : Stage). IsSoundChecker (record { alloc = i.alloc; part = t; bound = i.bound; stage = s; lines = n })) (sym c.put.ensures)
    (record {
      part = c.stage_after-stage.ensures.part;
      stage = c.stage_after-stage.ensures.sound;
      stays = c.stage_after-stage.ensures.stays n c.one_more-self-inside.ensures.more;
      few = c.one_more-self-inside.ensures.few;
    })

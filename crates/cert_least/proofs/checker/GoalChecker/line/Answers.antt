use Rattle.std.proofs.Common.{[], ◌∷◌, subst}
use Rattle.cert_read.specs.CertLine.{line}
use Rattle.cert_read.specs.Views.{line_of}
use Rattle.cert_least.specs.Checked.{GoalChecked}
use Rattle.cert_least.specs.Checking.{checked_of}
use Rattle.cert_least.specs.Courses.{Takes}
use Rattle.cert_least.proofs.Numbered.{same_aim, same_sound}
use Rattle.cert_least.proofs.checker.GoalChecker.line.Goals as goal

pub returns : goal.returns
returns c =
    let i = c.self.inside in let said = line (line_of c.args.line.now) in let n = c.one_more-self-inside.result in let k = c.phase_after-self-inside.new.checker in
    subst (λ (old : GoalChecked). Takes old (said ∷ []) (checked_of (record { aim = c.phase_after-self-inside.new.aim; checker = k; phase = c.phase_after-self-inside.result; lines = n })) c.answer.result) c.self.view_is
    (record {
      aim = same_aim i.aim c.phase_after-self-inside.new.aim c.phase_after-self-inside.ensures.same;
      course = c.phase_after-self-inside.ensures.course n c.one_more-self-inside.ensures.more;
      answers = c.answer.ensures;
    })

pub invariant_of-self : goal.invariant_of-self
invariant_of-self c =
    let i = c.self.inside in
    record {
      ready = c.phase_after-self-inside.ensures.ready;
      phase = same_sound i.aim c.phase_after-self-inside.new.aim c.phase_after-self-inside.result c.phase_after-self-inside.new.checker c.phase_after-self-inside.ensures.same c.phase_after-self-inside.ensures.sound;
      few = c.one_more-self-inside.ensures.few;
    }

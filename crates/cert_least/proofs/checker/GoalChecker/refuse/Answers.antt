use Rattle.std.proofs.Common.{[], ◌∷◌, Err, subst, refl}
use Rattle.cert_least.specs.declared.phase.Phase.TheVariants.{Stopped}
use Rattle.cert_least.specs.Checked.{GoalChecked}
use Rattle.cert_least.specs.Checking.{checked_of}
use Rattle.cert_least.specs.Courses.{Takes}
use Rattle.cert_least.proofs.checker.GoalChecker.refuse.Goals as goal

pub returns : goal.returns
returns c x h =
    let i = c.self.inside in let fault = c.fault_after-fault.result in
    subst (λ (old : GoalChecked). Takes old (x ∷ []) (checked_of (record { aim = i.aim; checker = i.checker; phase = Stopped fault; lines = i.lines })) (Err fault)) c.self.view_is
    (record {
      aim = refl;
      course = c.fault_after-fault.ensures x h;
      answers = refl;
    })

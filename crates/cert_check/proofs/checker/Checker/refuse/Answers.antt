use Rattle.std.proofs.Common.{[], ◌∷◌, Err, subst, sym, refl}
use Rattle.cert_check.specs.declared.checker.Stage.{Stage}
use Rattle.cert_check.specs.declared.checker.Stage.TheVariants.{Stopped}
use Rattle.cert_check.specs.Checked.{Checked}
use Rattle.cert_check.specs.Checking.{checked_of, IsSoundChecker}
use Rattle.cert_check.specs.Courses.{Takes}
use Rattle.cert_check.proofs.checker.Checker.refuse.Goals as goal

pub returns : goal.returns
returns c x h =
    let i = c.self.inside in let fault = c.fault_after-fault.result in
    let new : Stage → Checked = λ s. checked_of (record { alloc = i.alloc; part = i.part; bound = i.bound; stage = s; lines = i.lines }) in
    subst (λ (s : Stage). Takes c.args.self.now (x ∷ []) (new s) (Err fault)) (sym c.put.ensures)
    (subst (λ (old : Checked). Takes old (x ∷ []) (new (Stopped fault)) (Err fault)) c.self.view_is
    (record {
      checks = refl;
      course = c.fault_after-fault.ensures x h i.part i.bound;
      answers = refl;
    }))

pub invariant_of-self : goal.invariant_of-self
invariant_of-self c =
    let i = c.self.inside in
    subst (λ (s : Stage). IsSoundChecker (record { alloc = i.alloc; part = i.part; bound = i.bound; stage = s; lines = i.lines })) (sym c.put.ensures)
    (record { part = c.self.invariant.part; stage = tt; stays = tt; few = c.self.invariant.few })

use Rattle.std.proofs.Common.{◌≡◌, ap, None}
use Rattle.cover_model.specs.State.{State}
use Rattle.cover_model.specs.Rules.{make_false}
use Rattle.cover_rule.specs.Patch.{IsRunOf}
use Rattle.cover_rule.specs.Models.{PatchModel}
use Rattle.cover_rule.specs.Refusals.{false_refusal, ended_with}
use Rattle.cover_rule.specs.Held.{patch_of}
use Rattle.cover_rule.proofs.Helds.{run_ended, any_ok, held_with, still_ready, run_made_false}
use Rattle.cover_rule.proofs.patch.Patch.make_false.Goals as goal

pub invariant_of-self : goal.invariant_of-self
invariant_of-self c =
    let i = c.self.inside in let h = c.self.invariant in let p = i.problem.now in let k = i.kept in let k' = c.make_false.new.kept in let r = c.make_false.result in
    let P : PatchModel = patch_of p i.margins k in let Q : PatchModel = patch_of p i.margins k' in
    held_with p i.margins k k' i.work c.make_false.new.work h
    (run_ended (false_refusal P) P (ended_with P make_false) Q r (c.make_false.ensures.answer) h.run (any_ok (false_refusal P ≡ None → IsRunOf (ended_with P make_false)) r (λ e. run_made_false P h.whole h.run e)))
    (still_ready p i.margins k k' c.make_false.new.work (ap (λ (S : State). S.space) c.make_false.ensures.reached) c.make_false.ensures.ready)

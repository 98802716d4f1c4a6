use Rattle.std.proofs.Common.{◌≡◌, ap, None}
use Rattle.cover_model.specs.State.{State}
use Rattle.cover_model.specs.Rules.{flip}
use Rattle.cover_rule.specs.Patch.{IsRunOf}
use Rattle.cover_rule.specs.Models.{PatchModel}
use Rattle.cover_rule.specs.Refusals.{flip_refusal, ended_with}
use Rattle.cover_rule.specs.Held.{patch_of}
use Rattle.cover_rule.proofs.Helds.{run_ended, any_ok, held_with, still_ready, run_flipped}
use Rattle.cover_rule.proofs.patch.Patch.flip.Goals as goal

pub invariant_of-self : goal.invariant_of-self
invariant_of-self c =
    let i = c.self.inside in let h = c.self.invariant in let p = i.problem.now in let k = i.kept in let k' = c.flip.new.kept in let r = c.flip.result in
    let P : PatchModel = patch_of p i.margins k in let Q : PatchModel = patch_of p i.margins k' in
    held_with p i.margins k k' i.work c.flip.new.work h
    (run_ended (flip_refusal P c.args.axis) P (ended_with P (flip c.args.axis)) Q r (c.flip.ensures.answer) h.run (any_ok (flip_refusal P c.args.axis ≡ None → IsRunOf (ended_with P (flip c.args.axis))) r (λ e. run_flipped P h.whole h.run c.args.axis e)))
    (still_ready p i.margins k k' c.flip.new.work (ap (λ (S : State). S.space) c.flip.ensures.reached) c.flip.ensures.ready)

use Rattle.std.proofs.Common.{◌≡◌, ap, None}
use Rattle.cover_model.specs.State.{State}
use Rattle.cover_rule.specs.Patch.{IsRunOf}
use Rattle.cover_rule.specs.Models.{PatchModel}
use Rattle.cover_rule.specs.Refusals.{cut_refusal, cut_by}
use Rattle.cover_rule.specs.Held.{patch_of}
use Rattle.cover_rule.proofs.Helds.{run_ended, any_ok, held_with, still_ready, run_cut_by}
use Rattle.cover_rule.proofs.patch.Patch.cut.Goals as goal

pub invariant_of-self : goal.invariant_of-self
invariant_of-self c =
    let i = c.self.inside in let h = c.self.invariant in let p = i.problem.now in let k = i.kept in let k' = c.cut.new.kept in let r = c.cut.result in
    let P : PatchModel = patch_of p i.margins k in let Q : PatchModel = patch_of p i.margins k' in
    held_with p i.margins k k' i.work c.cut.new.work h
    (run_ended (cut_refusal P c.args.axis) P (cut_by P c.args.axis) Q r (c.cut.ensures.answer) h.run (any_ok (cut_refusal P c.args.axis ≡ None → IsRunOf (cut_by P c.args.axis)) r (λ e. run_cut_by P h.whole h.run c.args.axis e)))
    (still_ready p i.margins k k' c.cut.new.work (ap (λ (S : State). S.space) c.cut.ensures.reached) c.cut.ensures.ready)

use Rattle.std.proofs.Common.{◌≡◌, ap, None}
use Rattle.cover_model.specs.State.{State}
use Rattle.cover_model.specs.Rules.{either}
use Rattle.cover_rule.specs.Patch.{IsRunOf}
use Rattle.cover_rule.specs.Models.{PatchModel}
use Rattle.cover_rule.specs.Refusals.{either_refusal, ended_with}
use Rattle.cover_rule.specs.Held.{patch_of}
use Rattle.cover_rule.proofs.Helds.{run_ended, any_ok, held_with, still_ready, run_parted}
use Rattle.cover_rule.proofs.patch.Patch.either.Goals as goal

pub invariant_of-self : goal.invariant_of-self
invariant_of-self c =
    let i = c.self.inside in let h = c.self.invariant in let p = i.problem.now in let k = i.kept in let k' = c.either.new.kept in let r = c.either.result in
    let P : PatchModel = patch_of p i.margins k in let Q : PatchModel = patch_of p i.margins k' in
    held_with p i.margins k k' i.work c.either.new.work h
    (run_ended (either_refusal P c.args.first.items c.args.second.items) P (ended_with P (either c.args.first.items c.args.second.items)) Q r (c.either.ensures.answer) h.run (any_ok (either_refusal P c.args.first.items c.args.second.items ≡ None → IsRunOf (ended_with P (either c.args.first.items c.args.second.items))) r (λ e. run_parted P h.whole h.run c.args.first.items c.args.second.items e)))
    (still_ready p i.margins k k' c.either.new.work (ap (λ (S : State). S.space) c.either.ensures.reached) c.either.ensures.ready)

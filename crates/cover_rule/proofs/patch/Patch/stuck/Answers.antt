use Rattle.std.proofs.Common.{◌≡◌, ap, None}
use Rattle.cover_model.specs.State.{State}
use Rattle.cover_model.specs.Rules.{stuck}
use Rattle.cover_rule.specs.Patch.{IsRunOf}
use Rattle.cover_rule.specs.Models.{PatchModel}
use Rattle.cover_rule.specs.Refusals.{stuck_refusal, ended_with}
use Rattle.cover_rule.specs.Held.{patch_of}
use Rattle.cover_rule.proofs.Helds.{run_ended, any_ok, held_with, still_ready, run_stuck}
use Rattle.cover_rule.proofs.patch.Patch.stuck.Goals as goal

pub invariant_of-self : goal.invariant_of-self
invariant_of-self c =
    let i = c.self.inside in let h = c.self.invariant in let p = i.problem.now in let k = i.kept in let k' = c.stuck.new.kept in let r = c.stuck.result in
    let P : PatchModel = patch_of p i.margins k in let Q : PatchModel = patch_of p i.margins k' in
    held_with p i.margins k k' i.work c.stuck.new.work h
    (run_ended (stuck_refusal P c.args.j) P (ended_with P (stuck c.args.j)) Q r (c.stuck.ensures.answer) h.run (any_ok (stuck_refusal P c.args.j ≡ None → IsRunOf (ended_with P (stuck c.args.j))) r (λ e. run_stuck P h.whole h.run c.args.j e)))
    (still_ready p i.margins k k' c.stuck.new.work (ap (λ (S : State). S.space) c.stuck.ensures.reached) c.stuck.ensures.ready)

use Rattle.std.proofs.Common.{◌≡◌, ap, None}
use Rattle.cover_model.specs.State.{State}
use Rattle.cover_model.specs.Rules.{case}
use Rattle.cover_rule.specs.Patch.{IsRunOf}
use Rattle.cover_rule.specs.Models.{PatchModel}
use Rattle.cover_rule.specs.Refusals.{case_refusal, ended_with}
use Rattle.cover_rule.specs.Held.{patch_of}
use Rattle.cover_rule.proofs.Helds.{run_ended, any_ok, held_with, still_ready, run_cased}
use Rattle.cover_rule.proofs.patch.Patch.case.Goals as goal

pub invariant_of-self : goal.invariant_of-self
invariant_of-self c =
    let i = c.self.inside in let h = c.self.invariant in let p = i.problem.now in let k = i.kept in let k' = c.case.new.kept in let r = c.case.result in
    let P : PatchModel = patch_of p i.margins k in let Q : PatchModel = patch_of p i.margins k' in
    held_with p i.margins k k' i.work c.case.new.work h
    (run_ended (case_refusal P c.args.j) P (ended_with P (case c.args.j)) Q r (c.case.ensures.answer) h.run (any_ok (case_refusal P c.args.j ≡ None → IsRunOf (ended_with P (case c.args.j))) r (λ e. run_cased P h.whole h.run c.args.j e)))
    (still_ready p i.margins k k' c.case.new.work (ap (λ (S : State). S.space) c.case.ensures.reached) c.case.ensures.ready)

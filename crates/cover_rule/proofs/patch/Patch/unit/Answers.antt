use Rattle.std.proofs.Common.{◌≡◌, None}
use Rattle.cover_rule.specs.Patch.{IsRunOf}
use Rattle.cover_rule.specs.Models.{PatchModel}
use Rattle.cover_rule.specs.Refusals.{unit_refusal, forced_by}
use Rattle.cover_rule.specs.Held.{patch_of}
use Rattle.cover_rule.proofs.Helds.{run_after, any_ok, held_with, run_forced}
use Rattle.cover_rule.proofs.patch.Patch.unit.Goals as goal

pub invariant_of-self : goal.invariant_of-self
invariant_of-self c =
    let i = c.self.inside in let h = c.self.invariant in let p = i.problem.now in let k = i.kept in let k' = c.unit.new.kept in let r = c.unit.result in
    let P : PatchModel = patch_of p i.margins k in let Q : PatchModel = patch_of p i.margins k' in
    held_with p i.margins k k' i.work c.unit.new.work h
    (run_after (unit_refusal P c.args.j) P (forced_by P c.args.j) Q r (c.unit.ensures.answer) h.run (any_ok (unit_refusal P c.args.j ≡ None → IsRunOf (forced_by P c.args.j)) r (λ e. run_forced P h.whole h.run c.args.j e)))
    (c.unit.ensures.ready)

use Rattle.std.proofs.Common.{ap, subst}
use Rattle.cover_model.specs.State.{State}
use Rattle.cover_rule.specs.Models.{PatchModel}
use Rattle.cover_rule.specs.Narrowers.{narrowing_of}
use Rattle.cover_rule.specs.Refusals.{VoidEnd}
use Rattle.cover_rule.specs.Held.{patch_of}
use Rattle.cover_rule.proofs.Helds.{held_with, still_ready, run_voided}
use Rattle.cover_rule.proofs.patch.Patch.void.Goals as goal

pub invariant_of-self : goal.invariant_of-self
invariant_of-self c =
    let i = c.self.inside in let h = c.self.invariant in let p = i.problem.now in let k = i.kept in let k' = c.void.new.kept in
    let P : PatchModel = patch_of p i.margins k in let Q : PatchModel = patch_of p i.margins k' in
    held_with p i.margins k k' i.work c.void.new.work h (run_voided P h.whole h.run (narrowing_of c.args.by) Q c.void.result c.void.ensures.answer)
    (still_ready p i.margins k k' c.void.new.work (ap (λ (S : State). S.space) c.void.ensures.reached) c.void.ensures.ready)

pub returns : goal.returns
returns c =
    let i = c.self.inside in
    subst (λ (X : PatchModel). VoidEnd X (narrowing_of c.args.by) (patch_of i.problem.now i.margins c.void.new.kept) c.void.result) c.self.view_is c.void.ensures.answer

use Rattle.std.proofs.Common.{◌≡◌, None, subst}
use Rattle.cover_rule.specs.Models.{PatchModel}
use Rattle.cover_rule.specs.Narrowers.{FitsNarrowed, narrowing_of}
use Rattle.cover_rule.specs.Patch.{IsRunOf}
use Rattle.cover_rule.specs.Refusals.{narrow_refusal, narrowed_by, NarrowStep}
use Rattle.cover_rule.specs.Held.{patch_of}
use Rattle.cover_rule.proofs.Helds.{run_after, on_ok, held_with, run_narrowed}
use Rattle.cover_rule.proofs.patch.Patch.narrow.Goals as goal

pub invariant_of-self : goal.invariant_of-self
invariant_of-self c =
    let i = c.self.inside in let h = c.self.invariant in let p = i.problem.now in let k = i.kept in let k' = c.narrow.new.kept in let r = c.narrow.result in let n = narrowing_of c.args.by in
    let P : PatchModel = patch_of p i.margins k in let Q : PatchModel = patch_of p i.margins k' in
    held_with p i.margins k k' i.work c.narrow.new.work h
    (run_after (narrow_refusal P n) P (narrowed_by P n) Q r c.narrow.ensures.answer h.run
    (on_ok (FitsNarrowed P c.args.by) (narrow_refusal P n ≡ None → IsRunOf (narrowed_by P n)) r (λ f e. run_narrowed P h.whole h.run n f e) c.narrow.ensures.fits))
    c.narrow.ensures.ready

pub returns : goal.returns
returns c =
    let i = c.self.inside in
    subst (λ (X : PatchModel). NarrowStep X (narrowing_of c.args.by) (patch_of i.problem.now i.margins c.narrow.new.kept) c.narrow.result) c.self.view_is c.narrow.ensures.answer

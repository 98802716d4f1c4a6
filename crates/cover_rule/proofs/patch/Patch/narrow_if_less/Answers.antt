use Rattle.std.proofs.Common.{subst}
use Rattle.cover_rule.specs.Models.{PatchModel}
use Rattle.cover_rule.specs.Narrowers.{narrowing_of}
use Rattle.cover_rule.specs.Patch.{narrowed_in}
use Rattle.cover_rule.specs.Refusals.{narrow_refusal, narrowed_by, NarrowIfLessStep}
use Rattle.cover_rule.specs.Held.{patch_of}
use Rattle.cover_rule.proofs.Helds.{held_with, run_if_less, run_narrowed}
use Rattle.cover_rule.proofs.patch.Patch.narrow_if_less.Goals as goal

pub invariant_of-self : goal.invariant_of-self
invariant_of-self c =
    let i = c.self.inside in let h = c.self.invariant in let p = i.problem.now in let k = i.kept in let k' = c.narrow_if_less.new.kept in let n = narrowing_of c.args.by in
    let P : PatchModel = patch_of p i.margins k in let Q : PatchModel = patch_of p i.margins k' in
    held_with p i.margins k k' i.work c.narrow_if_less.new.work h
    (run_if_less (narrowed_in P n) (narrow_refusal P n) P (narrowed_by P n) Q c.narrow_if_less.result c.narrow_if_less.ensures.answer h.run (λ f e. run_narrowed P h.whole h.run n f e) c.narrow_if_less.ensures.fits)
    c.narrow_if_less.ensures.ready

pub returns : goal.returns
returns c =
    let i = c.self.inside in
    subst (λ (X : PatchModel). NarrowIfLessStep X (narrowing_of c.args.by) (patch_of i.problem.now i.margins c.narrow_if_less.new.kept) c.narrow_if_less.result) c.self.view_is c.narrow_if_less.ensures.answer

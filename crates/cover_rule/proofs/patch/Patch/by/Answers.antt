use Rattle.std.proofs.Common.{◌≡◌, ap, sym, subst, arith, None}
use Rattle.poly_graph.specs.ProblemViews.{problem_of}
use Rattle.cover_model.specs.Fits.{FitsProblem}
use Rattle.cover_model.specs.State.{State, IsLemma}
use Rattle.cover_data.specs.Margins.{loosenings_of}
use Rattle.cover_rule.specs.Models.{PatchModel}
use Rattle.cover_rule.specs.Patch.{IsRunOf, with_kept}
use Rattle.cover_rule.specs.Refusals.{by_refusal, covered, covered_by}
use Rattle.cover_data.specs.Views.{kept_of}
use Rattle.cover_rule.specs.Held.{patch_of}
use Rattle.cover_rule.proofs.Axes.{fits_length}
use Rattle.cover_rule.proofs.Helds.{run_after, any_ok, answers_lift, held_with, still_ready, run_covered}
use Rattle.cover_rule.proofs.patch.Patch.by.Goals as goal

pub by-requires-clause-axes : goal.by-requires-clause-axes
by-requires-clause-axes c =
    let i = c.self.inside in let L = c.args.lemma.now in
    let g = subst (λ (P : PatchModel). FitsProblem (problem_of P.problem) L.state) (sym c.self.view_is) c.requires.state in
    omega (arith, fits_length (problem_of i.problem.now).axes L.state.space g.axes, fits_length (problem_of i.problem.now).axes i.kept.reached.space c.self.invariant.run.sound.reached.axes)

pub invariant_of-self : goal.invariant_of-self
invariant_of-self c =
    let i = c.self.inside in let h = c.self.invariant in let p = i.problem.now in let k = i.kept in let k' = c.by.new.kept in let r = c.by.result in let L = c.args.lemma.now in
    let P : PatchModel = patch_of p i.margins k in let Q : PatchModel = patch_of p i.margins k' in
    let g = subst (λ (X : PatchModel). IsLemma (problem_of X.problem) (loosenings_of X.margins) L.state) (sym c.self.view_is) c.requires.lemma in
    held_with p i.margins k k' i.work i.work h
    (run_after (by_refusal (kept_of k) L) P (covered_by P L) Q r (answers_lift (with_kept P) (by_refusal (kept_of k) L) (kept_of k) (covered (kept_of k) L) (kept_of k') r c.by.ensures.answer) h.run
    (any_ok (by_refusal (kept_of k) L ≡ None → IsRunOf (covered_by P L)) r (λ e. run_covered P h.whole h.run L g e)))
    (still_ready p i.margins k k' i.work (ap (λ (S : State). S.space) c.by.ensures.reached) h.ready)

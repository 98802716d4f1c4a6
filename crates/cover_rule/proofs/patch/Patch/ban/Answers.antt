use Rattle.std.proofs.Common.{◌≡◌, sym, subst, arith, None}
use Rattle.poly_graph.specs.ProblemViews.{problem_of}
use Rattle.cover_model.specs.Fits.{FitsProblem}
use Rattle.cover_model.specs.State.{IsLemma}
use Rattle.cover_data.specs.Margins.{loosenings_of}
use Rattle.cover_rule.specs.Models.{PatchModel}
use Rattle.cover_rule.specs.Patch.{IsRunOf, with_kept}
use Rattle.cover_rule.specs.Refusals.{ban_refusal, banned, banned_by}
use Rattle.cover_data.specs.Views.{kept_of}
use Rattle.cover_rule.specs.Held.{patch_of}
use Rattle.cover_rule.proofs.Axes.{fits_length}
use Rattle.cover_rule.proofs.Helds.{run_after, any_ok, answers_lift, held_with, still_ready, run_banned}
use Rattle.cover_rule.proofs.patch.Patch.ban.Goals as goal

pub ban-requires-clause-axes : goal.ban-requires-clause-axes
ban-requires-clause-axes c =
    let i = c.self.inside in let L = c.args.lemma.now in
    let g = subst (λ (P : PatchModel). FitsProblem (problem_of P.problem) L.state) (sym c.self.view_is) c.requires.state in
    omega (arith, fits_length (problem_of i.problem.now).axes L.state.space g.axes, fits_length (problem_of i.problem.now).axes i.kept.reached.space c.self.invariant.run.sound.reached.axes)

pub invariant_of-self : goal.invariant_of-self
invariant_of-self c =
    let i = c.self.inside in let h = c.self.invariant in let p = i.problem.now in let k = i.kept in let k' = c.ban.new.kept in let r = c.ban.result in let L = c.args.lemma.now in
    let P : PatchModel = patch_of p i.margins k in let Q : PatchModel = patch_of p i.margins k' in
    let g = subst (λ (X : PatchModel). IsLemma (problem_of X.problem) (loosenings_of X.margins) L.state) (sym c.self.view_is) c.requires.lemma in
    held_with p i.margins k k' i.work i.work h
    (run_after (ban_refusal (kept_of k) c.args.j L) P (banned_by P c.args.j L) Q r (answers_lift (with_kept P) (ban_refusal (kept_of k) c.args.j L) (kept_of k) (banned (kept_of k) c.args.j L) (kept_of k') r c.ban.ensures.answer) h.run
    (any_ok (ban_refusal (kept_of k) c.args.j L ≡ None → IsRunOf (banned_by P c.args.j L)) r (λ e. run_banned P h.whole h.run c.args.j L g e)))
    (still_ready p i.margins k k' i.work c.ban.ensures.space h.ready)

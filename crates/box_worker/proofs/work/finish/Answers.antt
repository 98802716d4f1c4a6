use Rattle.std.proofs.Common.{◌≡◌, ◌∙◌, ap, sym, subst, false, true, not, IsTrue}
use Rattle.poly_graph.specs.ProblemViews.{Parts, problem_of}
use Rattle.poly_graph.specs.Problem.{IsProblem}
use Rattle.cover_model.specs.Rules.{make_false}
use Rattle.cover_model.specs.State.{may, sure}
use Rattle.interval_model.specs.Space.{middle}
use Rattle.cover_rule.specs.Models.{PatchModel}
use Rattle.cover_rule.specs.Patch.{problem_in, loosenings_in, now_in}
use Rattle.cover_rule.specs.Refusals.{false_refusal, ended_with}
use Rattle.box_worker.specs.Attempts.{Attempts, conjuncts_are_decided, no_atom_empties}
use Rattle.box_worker.proofs.Due.{may_hold, is_due, when_none}
use Rattle.box_worker.proofs.Going.{refused}
use Rattle.box_worker.proofs.work.finish.Goals as goal

pub part-requires : goal.part-requires
part-requires c =
    let M = c.mark_conjuncts.new.patch in let F = c.make_false.new.patch in let B = c.split.new.patch in let N = c.middle_point.new.patch in let V = c.void_any.new.patch in
    let a : Attempts (false_refusal M) M (ended_with M make_false) F false = refused (false_refusal M) M (ended_with M make_false) F c.make_false.result c.if-make_false.false c.make_false.ensures in
    let open_end = c.in_ok-mark_conjuncts.ensures.open in
    let y : B ≡ F = c.in_ok-split.ensures.same c.if-branch-3.false ∙ c.in_ok-found.ensures.same in
    let last : V ≡ N = c.void_any.ensures.same c.if-void_any.false in
    let e : V ≡ B = last ∙ c.in_ok-point.ensures.same in
    let v : V ≡ M = e ∙ y ∙ a.1 in
    record {
      due = is_due V (subst (λ (r : Parts). IsProblem (problem_of r)) c.problem-problem.ensures.problem c.problem_is_whole.ensures.problem)
          c.run_is_lawful.ensures.sound.reached.marks
          (ap (λ (X : PatchModel). X.kept.end) v ∙ open_end)
          (subst (λ (X : PatchModel). may (problem_in X) (loosenings_in X) (now_in X) ≡ true) (sym v) (may_hold M (ended_with M make_false) F open_end a))
          (subst (λ (X : PatchModel). conjuncts_are_decided X ≡ true) (sym v) c.in_ok-mark_conjuncts.ensures.decided)
          (subst (λ (X : PatchModel). no_atom_empties X ≡ true) (sym last) (c.void_any.ensures.none c.if-void_any.false))
          (subst (λ (X : PatchModel). IsTrue (not (sure (problem_in X) (loosenings_in X) (middle X.kept.reached.space)))) (sym e)
          (when_none c.in_ok-point.field-0 _ _ c.in_default-2.is c.in_ok-point.ensures.middle));
    }

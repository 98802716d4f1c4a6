use Rattle.std.proofs.Common.{◌≡◌, ◌∙◌, ap, sym, subst, arith, false, true, length, ℕ}
use Rattle.std.proofs.lemmas.List.{length-map}
use Rattle.poly_graph.specs.ProblemViews.{Parts, problem_of}
use Rattle.poly_graph.specs.Problem.{IsProblem}
use Rattle.cover_model.specs.Rules.{stuck}
use Rattle.cover_model.specs.Honest.{none_below}
use Rattle.cover_rule.specs.Models.{PatchModel}
use Rattle.cover_data.specs.Margins.{loosenings_of}
use Rattle.cover_rule.specs.Refusals.{stuck_refusal, ended_with}
use Rattle.box_worker.specs.Attempts.{Attempts}
use Rattle.box_worker.proofs.Going.{refused}
use Rattle.box_worker.proofs.Parts.{stuck_refused, some_is_stuck}
use Rattle.box_worker.proofs.branching.stick.Goals as goal

pub loop-j-preserved : goal.loop-j-preserved
loop-j-preserved c =
    let P = c.loop-j.patch in let Q = c.stuck.new.patch in let j = c.loop-j.j in let e = c.loop-j.invariant.same in
    let a : Attempts (stuck_refusal P j) P (ended_with P (stuck j)) Q false = refused (stuck_refusal P j) P (ended_with P (stuck j)) Q c.stuck.result c.if-stuck.false c.stuck.ensures in
    let P' = c.args.patch.now in
    record {
      same = a.1 ∙ e;
      below = stuck_refused P' Q (ended_with P' (stuck j)) j c.requires.due c.requires.small c.loop-j.invariant.below
          (subst (λ (X : PatchModel). Attempts (stuck_refusal X j) X (ended_with X (stuck j)) Q false) e a);
    }

pub unreachable-requires : goal.unreachable-requires
unreachable-requires c =
    let P = c.args.patch.now in let i = c.loop-j.invariant in
    let n : length P.problem.atoms ≡ c.loop-j.j = omega (arith, c.loop-j-test.false, c.loop-j.auto.j-end, ap (λ (r : Parts). length r.atoms) c.problem-problem.ensures.problem, simp length-map at (ap length c.atoms-j-end.ensures.atoms)) in
    some_is_stuck P (subst (λ (r : Parts). IsProblem (problem_of r)) (c.problem-problem.ensures.problem) c.atoms-j-end.ensures.whole.problem)
    c.space_is_upright.ensures.grid c.space_is_upright.ensures.upright c.requires.due c.requires.small
    (subst (λ (k : ℕ). none_below (problem_of P.problem) (loosenings_of P.margins) P.kept.reached k ≡ true) (sym n) i.below)

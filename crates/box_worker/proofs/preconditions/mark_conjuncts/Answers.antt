use Rattle.std.proofs.Common.{◌∙◌, ap, arith, length, refl, ◌≡◌, sym, subst, true, List}
use Rattle.std.proofs.lemmas.List.{length-map}
use Rattle.poly_graph.specs.ProblemViews.{Parts, problem_of}
use Rattle.poly_graph.specs.Marks.{Mark}
use Rattle.cover_model.specs.State.{State, state_of}
use Rattle.cover_model.specs.Honest.{all_in_yes, conjuncts}
use Rattle.cover_rule.specs.Refusals.{unit_refusal, forced_by}
use Rattle.box_worker.specs.Attempts.{all_decided}
use Rattle.box_worker.proofs.Conjuncts.{AreMarked, marked_next, marked_all, yes_are_decided}
use Rattle.box_worker.proofs.Going.{continues_attempt, open_attempt}
use Rattle.box_worker.proofs.preconditions.mark_conjuncts.Goals as goal

pub loop-j-preserved : goal.loop-j-preserved
loop-j-preserved c =
    let P = c.loop-j.patch in let Q = c.unit.new.patch in let j = c.loop-j.j in let i = c.loop-j.invariant in let b = c.in_ok-unit.field-0 in let a = c.in_ok-unit.ensures in
    record {
      continues = continues_attempt (unit_refusal P j) P (forced_by P j) Q c.args.patch.now b a (record { problem = refl; margins = refl; first = refl; quoted = refl }) i.continues;
      open_end = open_attempt (unit_refusal P j) P (forced_by P j) Q b a refl i.open_end;
      marked = marked_next c.args.patch.now.problem P Q j b i.continues.problem i.open_end a i.marked;
    }

pub returns-clause-decided : goal.returns-clause-decided
returns-clause-decided c =
    let q = c.problem-problem.result.now in let e = c.problem-problem.ensures.problem in let R = c.loop-j.patch in let S = R.kept.reached in
    let m : AreMarked (problem_of q) S c.loop-j.j = subst (λ (r : Parts). AreMarked (problem_of r) S c.loop-j.j) (sym e) c.loop-j.invariant.marked in
    subst (λ (r : Parts). all_decided S (conjuncts (problem_of r).form) ≡ true) (sym (c.loop-j.invariant.continues.problem ∙ sym e))
    (marked_all (problem_of q) c.atoms-j-end.ensures.whole.problem S
    (λ i l u k. m i (omega (arith, l, c.loop-j-test.false, simp length-map at (ap length c.atoms-j-end.ensures.atoms))) u k))

pub returns-then-conjuncts_in_yes-clause-decided : goal.returns-then-conjuncts_in_yes-clause-decided
returns-then-conjuncts_in_yes-clause-decided c =
    let q = c.problem-problem.result.now in let S = c.args.patch.now.kept.reached in let js = conjuncts (problem_of q).form in
    let at : c.lits.result.now ≡ S.marks = c.lits.ensures ∙ ap (λ (T : State). T.marks) c.reached.ensures.state in
    subst (λ (r : Parts). all_decided S (conjuncts (problem_of r).form) ≡ true) c.problem-problem.ensures.problem
    (yes_are_decided S js (subst (λ (ms : List Mark). all_in_yes (state_of S.space ms) js ≡ true) at (sym (c.conjuncts_in_yes.ensures.truth S.space) ∙ c.if-conjuncts_in_yes.true)))

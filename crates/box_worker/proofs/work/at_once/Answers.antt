use Rattle.std.proofs.Common.{◌≡◌, ◌∙◌, ap, sym, subst, false, length, get_or, IsTrue}
use Rattle.std.proofs.lemmas.List.Elements.{All-contains}
use Rattle.poly_graph.specs.ProblemViews.{Parts, problem_of}
use Rattle.cover_model.specs.Rules.{make_false}
use Rattle.cover_model.specs.State.{State, IsLemma, covers}
use Rattle.cover_model.specs.Fits.{FitsProblem}
use Rattle.cover_data.specs.declared.margins.Margins.{Margins}
use Rattle.cover_data.specs.Margins.{loosenings_of}
use Rattle.cover_data.specs.Models.{LemmaModel}
use Rattle.cover_rule.specs.Models.{PatchModel}
use Rattle.cover_rule.specs.Refusals.{false_refusal, by_refusal, covered_by, ended_with}
use Rattle.cover_rule.proofs.Axes.{fits_length}
use Rattle.box_worker.specs.Attempts.{Attempts}
use Rattle.box_worker.proofs.Due.{not_refused}
use Rattle.box_worker.proofs.Going.{refused}
use Rattle.box_worker.proofs.Works.{covering_is}
use Rattle.box_worker.proofs.work.at_once.Goals as goal

pub first_covering-requires-clause-axes : goal.first_covering-requires-clause-axes
first_covering-requires-clause-axes c = λ k d l.
    let P = c.args.patch.now in let F = c.make_false.new.patch in let Q = c.middle_point.new.patch in let same : Q ≡ F = c.in_ok-point.ensures.same in
    let a : Attempts (false_refusal P) P (ended_with P make_false) F false = refused (false_refusal P) P (ended_with P make_false) F c.make_false.result c.if-make_false.false c.make_false.ensures in
    let p = problem_of P.problem in
    let e : Q.problem ≡ P.problem = ap (λ (X : PatchModel). X.problem) (same ∙ a.1) in
    let f : FitsProblem p Q.kept.reached = subst (λ (r : Parts). FitsProblem (problem_of r) Q.kept.reached) e c.reached.ensures.run.sound.reached in
    let h = c.requires.lemmas k d l in
    fits_length p.axes (get_or c.args.lemmas.now k d).state.space h.0.axes ∙ sym (fits_length p.axes Q.kept.reached.space f.axes) ∙ ap (λ (S : State). length S.space) (sym c.reached.ensures.state)

pub by-requires-clause-state : goal.by-requires-clause-state
by-requires-clause-state c =
    let P = c.args.patch.now in let F = c.make_false.new.patch in let Q = c.middle_point.new.patch in let same : Q ≡ F = c.in_ok-point.ensures.same in let L = c.in-Some-first_covering.lemma.now in
    let a : Attempts (false_refusal P) P (ended_with P make_false) F false = refused (false_refusal P) P (ended_with P make_false) F c.make_false.result c.if-make_false.false c.make_false.ensures in
    let e : Q.problem ≡ P.problem = ap (λ (X : PatchModel). X.problem) (same ∙ a.1) in
    let h = All-contains (λ (X : LemmaModel). FitsProblem (problem_of P.problem) X.state × IsLemma (problem_of P.problem) (loosenings_of P.margins) X.state) c.args.lemmas.now L c.requires.lemmas
    (covering_is c.args.lemmas.now c.reached.result.now L c.in-Some-first_covering.ensures).0 in
    subst (λ (r : Parts). FitsProblem (problem_of r) L.state) (sym e) h.0

pub by-requires-clause-lemma : goal.by-requires-clause-lemma
by-requires-clause-lemma c =
    let P = c.args.patch.now in let F = c.make_false.new.patch in let Q = c.middle_point.new.patch in let same : Q ≡ F = c.in_ok-point.ensures.same in let L = c.in-Some-first_covering.lemma.now in
    let a : Attempts (false_refusal P) P (ended_with P make_false) F false = refused (false_refusal P) P (ended_with P make_false) F c.make_false.result c.if-make_false.false c.make_false.ensures in
    let e : Q.problem ≡ P.problem = ap (λ (X : PatchModel). X.problem) (same ∙ a.1) in
    let f : Q.margins ≡ P.margins = ap (λ (X : PatchModel). X.margins) (same ∙ a.1) in
    let h = All-contains (λ (X : LemmaModel). FitsProblem (problem_of P.problem) X.state × IsLemma (problem_of P.problem) (loosenings_of P.margins) X.state) c.args.lemmas.now L c.requires.lemmas
    (covering_is c.args.lemmas.now c.reached.result.now L c.in-Some-first_covering.ensures).0 in
    subst (λ (r : Parts). IsLemma (problem_of r) (loosenings_of Q.margins) L.state) (sym e)
    (subst (λ (x : Margins). IsLemma (problem_of P.problem) (loosenings_of x) L.state) (sym f) h.1)

pub unreachable-requires : goal.unreachable-requires
unreachable-requires c =
    let P = c.args.patch.now in let F = c.make_false.new.patch in let Q = c.middle_point.new.patch in let same : Q ≡ F = c.in_ok-point.ensures.same in let R = c.by.new.patch in let L = c.in-Some-first_covering.lemma.now in
    let a : Attempts (false_refusal P) P (ended_with P make_false) F false = refused (false_refusal P) P (ended_with P make_false) F c.make_false.result c.if-make_false.false c.make_false.ensures in
    let b : Attempts (by_refusal Q.kept L) Q (covered_by Q L) R false = refused (by_refusal Q.kept L) Q (covered_by Q L) R c.in_ok-by.field-0 c.if-branch.false c.in_ok-by.ensures in
    not_refused Q (covered_by Q L) R L (ap (λ (X : PatchModel). X.kept.end) (same ∙ a.1) ∙ c.requires.open)
    (subst (λ (S : State). IsTrue (covers L.state S)) c.reached.ensures.state (covering_is c.args.lemmas.now c.reached.result.now L c.in-Some-first_covering.ensures).1) b

use Rattle.std.proofs.Common.{◌≡◌, ◌∙◌, ap, sym, refl, subst, arith, false, length, IsTrue}
use Rattle.poly_graph.specs.ProblemViews.{problem_of}
use Rattle.interval_model.specs.Space.{is_undecided, test_axis, widest}
use Rattle.ival.specs.BestViews.{axis_of}
use Rattle.cover_model.specs.Honest.{is_small}
use Rattle.cover_rule.specs.Models.{PatchModel}
use Rattle.cover_rule.proofs.Axes.{fits_length}
use Rattle.box_worker.specs.Attempts.{WidestAttempt}
use Rattle.box_worker.proofs.Small.{small_with_bools}
use Rattle.box_worker.proofs.Parts.{widest_refused, cut_same}
use Rattle.box_worker.proofs.branching.part.Goals as goal

pub stick-requires-clause-small : goal.stick-requires-clause-small
stick-requires-clause-small c =
    let P = c.args.patch.now in let Q = c.cut_widest.new.patch in
    let a : WidestAttempt P Q false = subst (WidestAttempt P Q) c.if-cut_widest.false c.cut_widest.ensures in
    let e : Q ≡ P = cut_same (axis_of (widest P.kept.reached.space)) P Q false a refl in
    let same : c.flip_any.new.patch ≡ P = c.flip_any.ensures.same c.if-flip_any.false ∙ e in
    subst (λ (X : PatchModel). IsTrue (is_small X.margins.least_bits X.kept.reached.space)) (sym same)
    (small_with_bools P.margins.least_bits P.kept.reached.space (widest_refused P Q c.requires.due a)
    (λ i l. ap (λ (X : PatchModel). test_axis is_undecided i X.kept.reached.space) (sym e) ∙ c.flip_any.ensures.none c.if-flip_any.false i (omega (arith, l, fits_length (problem_of P.problem).axes P.kept.reached.space c.run_is_lawful.ensures.sound.reached.axes, ap (λ (X : PatchModel). length X.problem.axes) e))))

use Rattle.std.proofs.Common.{◌≡◌, length, Some, true, false, refl, ap, sym, ◌∙◌}
use mathlib.Core.Path.{fun_ext}
use Rattle.dyadic.specs.Rounding.{two_to_minus}
use Rattle.interval_model.specs.Interval.{Interval, is_nothing, met, interval_sum}
use Rattle.interval_model.specs.Space.{Space}
use Rattle.poly_graph.specs.ProblemViews.{problem_of}
use Rattle.cover_model.specs.Views.{multipliers_of}
use Rattle.cover_model.proofs.NodeEnclosures.{length_enclosures}
use Rattle.ival.specs.Views.{interval_of}
use Rattle.ival.specs.RowViews.{rows_of}
use Rattle.ival.specs.Options.{option_at}
use Rattle.ival.specs.SpaceViews.{space_of}
use Rattle.ival.proofs.Optional.{no_option}
use Rattle.plain_eval.specs.Parts.{setting, expansion_on, range_on}
use Rattle.plain_eval.proofs.Finishing.{expansion_is, combined_is, nothing_in_range, nothing_left, something_left}
use Rattle.plain_eval.proofs.combining.combine_plain.Goals as goal

pub start-central-requires-clause-centre_rows : goal.start-central-requires-clause-centre_rows
start-central-requires-clause-centre_rows c = ap length c.requires.centre_rows ∙ length_enclosures (space_of c.args.centre.now) c.args.problem.now.nodes

pub sweep-rest-requires-clause-rows : goal.sweep-rest-requires-clause-rows
sweep-rest-requires-clause-rows c = ap length c.requires.rows ∙ length_enclosures (space_of c.args.space.now) c.args.problem.now.nodes ∙ ap length (sym c.graph-graph.ensures.graph)

pub sweep-rest-requires-clause-centre_rows : goal.sweep-rest-requires-clause-centre_rows
sweep-rest-requires-clause-centre_rows c = ap length c.requires.centre_rows ∙ length_enclosures (space_of c.args.centre.now) c.args.problem.now.nodes ∙ ap length (sym c.graph-graph.ensures.graph)

pub sweep-rest-requires-clause-under : goal.sweep-rest-requires-clause-under
sweep-rest-requires-clause-under c = λ k h. no_option c.clear_marks.new.self k (c.clear_marks.ensures.marks k)

pub returns-then-is_empty-clause-narrowed : goal.returns-then-is_empty-clause-narrowed
returns-then-is_empty-clause-narrowed c =
    let p = problem_of c.args.problem.now in let old = space_of c.args.space.now in let centre = space_of c.args.centre.now in let ms = multipliers_of c.args.multipliers.now in
    let s = setting c.graph-graph.result.now c.sweep-rest.new.coefficients c.args.space.now c.args.centre.now in
    let allowed = interval_of c.start-central.result.1 in let rest = interval_of c.sweep-rest.result in
    let e = expansion_is p old centre ms s.nodes (rows_of c.args.rows.now) (rows_of c.args.centre_rows.now) (option_at c.start-central.new.linear) (option_at c.clear_marks.new.self) (interval_of c.start-central.result.0)
    (expansion_on s.nodes s.linear s.square 0 rest) c.graph-graph.ensures.graph c.requires.rows c.requires.centre_rows c.start-central.ensures.roots
    (fun_ext (λ k. no_option c.clear_marks.new.self k (c.clear_marks.ensures.marks k))) c.start-central.ensures.central c.sweep-rest.ensures.expansion in
    let is = combined_is p (two_to_minus c.args.loosen) c.args.lits.now old centre ms allowed (expansion_on s.nodes s.linear s.square 0 rest) c.requires.centre e c.start-central.ensures.allowed in
    let range : interval_of c.meet.result ≡ met (interval_sum rest (range_on s 0)) allowed =
    c.meet.ensures ∙ ap (λ (i : Interval). met i allowed) (c.add.ensures ∙ ap (λ (i : Interval). interval_sum rest i) c.sum_parts-sum.ensures.sum) in
    let test : is_nothing (met (interval_sum rest (range_on s 0)) allowed) ≡ true = ap is_nothing (sym range) ∙ sym c.is_empty.ensures ∙ c.if-is_empty.true in
    (is ∙ nothing_in_range s allowed rest test, refl)

pub returns-then-not-leave-clause-narrowed : goal.returns-then-not-leave-clause-narrowed
returns-then-not-leave-clause-narrowed c =
    let p = problem_of c.args.problem.now in let old = space_of c.args.space.now in let centre = space_of c.args.centre.now in let ms = multipliers_of c.args.multipliers.now in
    let s = setting c.graph-graph.result.now c.sweep-rest.new.coefficients c.args.space.now c.args.centre.now in
    let allowed = interval_of c.start-central.result.1 in let rest = interval_of c.sweep-rest.result in
    let e = expansion_is p old centre ms s.nodes (rows_of c.args.rows.now) (rows_of c.args.centre_rows.now) (option_at c.start-central.new.linear) (option_at c.clear_marks.new.self) (interval_of c.start-central.result.0)
    (expansion_on s.nodes s.linear s.square 0 rest) c.graph-graph.ensures.graph c.requires.rows c.requires.centre_rows c.start-central.ensures.roots
    (fun_ext (λ k. no_option c.clear_marks.new.self k (c.clear_marks.ensures.marks k))) c.start-central.ensures.central c.sweep-rest.ensures.expansion in
    let is = combined_is p (two_to_minus c.args.loosen) c.args.lits.now old centre ms allowed (expansion_on s.nodes s.linear s.square 0 rest) c.requires.centre e c.start-central.ensures.allowed in
    let range : interval_of c.meet.result ≡ met (interval_sum rest (range_on s 0)) allowed =
    c.meet.ensures ∙ ap (λ (i : Interval). met i allowed) (c.add.ensures ∙ ap (λ (i : Interval). interval_sum rest i) c.sum_parts-sum.ensures.sum) in
    let test : is_nothing (met (interval_sum rest (range_on s 0)) allowed) ≡ false = ap is_nothing (sym range) ∙ sym c.is_empty.ensures ∙ c.if-is_empty.false in
    (is ∙ nothing_left s allowed rest test (rw c.if-not-leave.true at c.leave.ensures.left), refl)

pub returns-then-set_axes-clause-narrowed : goal.returns-then-set_axes-clause-narrowed
returns-then-set_axes-clause-narrowed c =
    let p = problem_of c.args.problem.now in let old = space_of c.args.space.now in let centre = space_of c.args.centre.now in let ms = multipliers_of c.args.multipliers.now in
    let s = setting c.graph-graph.result.now c.sweep-rest.new.coefficients c.args.space.now c.args.centre.now in
    let allowed = interval_of c.start-central.result.1 in let rest = interval_of c.sweep-rest.result in
    let e = expansion_is p old centre ms s.nodes (rows_of c.args.rows.now) (rows_of c.args.centre_rows.now) (option_at c.start-central.new.linear) (option_at c.clear_marks.new.self) (interval_of c.start-central.result.0)
    (expansion_on s.nodes s.linear s.square 0 rest) c.graph-graph.ensures.graph c.requires.rows c.requires.centre_rows c.start-central.ensures.roots
    (fun_ext (λ k. no_option c.clear_marks.new.self k (c.clear_marks.ensures.marks k))) c.start-central.ensures.central c.sweep-rest.ensures.expansion in
    let is = combined_is p (two_to_minus c.args.loosen) c.args.lits.now old centre ms allowed (expansion_on s.nodes s.linear s.square 0 rest) c.requires.centre e c.start-central.ensures.allowed in
    let range : interval_of c.meet.result ≡ met (interval_sum rest (range_on s 0)) allowed =
    c.meet.ensures ∙ ap (λ (i : Interval). met i allowed) (c.add.ensures ∙ ap (λ (i : Interval). interval_sum rest i) c.sum_parts-sum.ensures.sum) in
    let test : is_nothing (met (interval_sum rest (range_on s 0)) allowed) ≡ false = ap is_nothing (sym range) ∙ sym c.is_empty.ensures ∙ c.if-is_empty.false in
    let left = rw c.if-not-leave.false at c.leave.ensures.left in
    let some = something_left s allowed rest test c.leave.new.left c.leave.ensures.count left (space_of c.set_axes.new.space) c.set_axes.ensures.axes in
    (is ∙ some, c.set_axes.ensures.less c.if-set_axes.true)

pub returns-else-set_axes-clause-narrowed : goal.returns-else-set_axes-clause-narrowed
returns-else-set_axes-clause-narrowed c =
    let p = problem_of c.args.problem.now in let old = space_of c.args.space.now in let centre = space_of c.args.centre.now in let ms = multipliers_of c.args.multipliers.now in
    let s = setting c.graph-graph.result.now c.sweep-rest.new.coefficients c.args.space.now c.args.centre.now in
    let allowed = interval_of c.start-central.result.1 in let rest = interval_of c.sweep-rest.result in
    let e = expansion_is p old centre ms s.nodes (rows_of c.args.rows.now) (rows_of c.args.centre_rows.now) (option_at c.start-central.new.linear) (option_at c.clear_marks.new.self) (interval_of c.start-central.result.0)
    (expansion_on s.nodes s.linear s.square 0 rest) c.graph-graph.ensures.graph c.requires.rows c.requires.centre_rows c.start-central.ensures.roots
    (fun_ext (λ k. no_option c.clear_marks.new.self k (c.clear_marks.ensures.marks k))) c.start-central.ensures.central c.sweep-rest.ensures.expansion in
    let is = combined_is p (two_to_minus c.args.loosen) c.args.lits.now old centre ms allowed (expansion_on s.nodes s.linear s.square 0 rest) c.requires.centre e c.start-central.ensures.allowed in
    let range : interval_of c.meet.result ≡ met (interval_sum rest (range_on s 0)) allowed =
    c.meet.ensures ∙ ap (λ (i : Interval). met i allowed) (c.add.ensures ∙ ap (λ (i : Interval). interval_sum rest i) c.sum_parts-sum.ensures.sum) in
    let test : is_nothing (met (interval_sum rest (range_on s 0)) allowed) ≡ false = ap is_nothing (sym range) ∙ sym c.is_empty.ensures ∙ c.if-is_empty.false in
    let left = rw c.if-not-leave.false at c.leave.ensures.left in
    let some = something_left s allowed rest test c.leave.new.left c.leave.ensures.count left (space_of c.set_axes.new.space) c.set_axes.ensures.axes in
    let same = c.set_axes.ensures.same c.if-set_axes.false in (is ∙ some ∙ ap (λ (t : Space). Some t) same, same)

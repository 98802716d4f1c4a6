use Rattle.std.proofs.Common.{◌≡◌, ◌∙◌, ap, sym}
use Rattle.poly_graph.specs.ProblemViews.{Parts}
use Rattle.interval_model.specs.Space.{Space}
use Rattle.cover_model.specs.Narrowed.{enclosures}
use Rattle.cover_model.specs.State.{State}
use Rattle.ival.specs.RowViews.{rows_of}
use Rattle.ival.specs.SpaceViews.{space_of}
use Rattle.cover_rule.proofs.Axes.{has_rows}
use Rattle.box_worker.proofs.facts.may_hold_at.Goals as goal

pub may_atom-requires-clause-rows : goal.may_atom-requires-clause-rows
may_atom-requires-clause-rows c =
    let p = c.problem-problem.result.now in let P = c.args.patch.now in let s = space_of c.space.result.now in
    let at : P.kept.reached.space ≡ s = sym (c.space.ensures ∙ ap (λ (S : State). S.space) c.reached-state.ensures.state) in
    has_rows p c.problem_is_whole.ensures s (rows_of c.rows.result.now)
    (c.rows.ensures ∙ ap (λ (q : Parts). enclosures P.kept.reached.space q.nodes) (sym c.problem-problem.ensures.problem) ∙ ap (λ (x : Space). enclosures x p.nodes) at)

use Rattle.std.proofs.Common.{◌≡◌, ◌+◌, ℕ, List, ◌∷◌, length, drop, get_or, sym, subst, ap, ◌∙◌, arith}
use Rattle.cert_read.specs.Views.{line_of}
use Rattle.cert_model.specs.Due.{axis_next}
use Rattle.cert_model.specs.Accepted.{next}
use Rattle.poly_graph.specs.Problem.{Axis}
use Rattle.poly_graph.specs.ProblemViews.{problem_of, axis_of}
use Rattle.ival.specs.SpaceViews.{space_of, domain_of}
use Rattle.cert_check.specs.States.{loosenings_of}
use Rattle.cert_check.specs.Dues.{IsOutcome}
use Rattle.cert_check.specs.Faults.{IsLineRefusal}
use Rattle.cert_check.proofs.Waits.{axes_here, axes_done, axis_goes}
use Rattle.cert_check.proofs.lemma.axis_line.Goals as goal

pub returns-then-axis-axes-clause-comes : goal.returns-then-axis-axes-clause-comes
returns-then-axis-axes-clause-comes c b =
    let p = c.args.problem.now in let cover = c.args.cover in let space = space_of c.args.space in
    let none : drop (length space) p.axes ≡ _ = axes_done c.axes-axes.result.now p.axes (length space) c.axes-axes.ensures.axes (omega (arith, c.if-axis-axes.true, c.len-axis.ensures)) in
    subst (λ (xs : List Axis). IsOutcome p c.yes_line.result (next (problem_of p) b (axis_next (loosenings_of cover.loosenings) cover.count cover.lemmas xs space) (line_of c.args.line.now)))
    (sym none) (c.yes_line.ensures.comes b)

pub returns-in-Err-clause-comes : goal.returns-in-Err-clause-comes
returns-in-Err-clause-comes c b =
    let p = c.args.problem.now in let cover = c.args.cover in let space = space_of c.args.space in let axes = c.axes-axes.result.now in let n = c.len-axis.result in
    let a = get_or axes n c.index-axes-axis.result in
    let here : drop (length space) p.axes ≡ axis_of a ∷ drop (n + 1) p.axes =
    ap (λ (k : ℕ). drop k p.axes) (sym c.len-axis.ensures) ∙ axes_here axes p.axes n c.index-axes-axis.result c.axes-axes.ensures.axes c.if-axis-axes.false in
    subst (λ (xs : List Axis). IsLineRefusal c.in-Err.refusal (next (problem_of p) b (axis_next (loosenings_of cover.loosenings) cover.count cover.lemmas xs space) (line_of c.args.line.now)))
    (sym here) (c.in-Err.ensures (problem_of p) (loosenings_of cover.loosenings) cover.count cover.lemmas (drop (n + 1) p.axes) space)

pub returns-in-Ok-clause-comes : goal.returns-in-Ok-clause-comes
returns-in-Ok-clause-comes c b =
    let p = c.args.problem.now in let cover = c.args.cover in let space = space_of c.args.space in let axes = c.axes-axes.result.now in let n = c.len-axis.result in
    let a = get_or axes n c.index-axes-axis.result in
    let here : drop (length space) p.axes ≡ axis_of a ∷ drop (n + 1) p.axes =
    ap (λ (k : ℕ). drop k p.axes) (sym c.len-axis.ensures) ∙ axes_here axes p.axes n c.index-axes-axis.result c.axes-axes.ensures.axes c.if-axis-axes.false in
    let behind : drop (n + 1) p.axes ≡ drop (length space + 1) p.axes = ap (λ (k : ℕ). drop (k + 1) p.axes) c.len-axis.ensures in
    axis_goes (problem_of p) b (line_of c.args.line.now) space (axis_of a) (drop (n + 1) p.axes) here behind (loosenings_of cover.loosenings) cover.count cover.lemmas
    (space_of c.push.new.self) (domain_of c.in-Ok.domain) c.push.ensures.axes
    (c.in-Ok.ensures (problem_of p) (loosenings_of cover.loosenings) cover.count cover.lemmas (drop (n + 1) p.axes) space)

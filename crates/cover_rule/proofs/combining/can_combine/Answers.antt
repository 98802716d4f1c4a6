use Rattle.std.proofs.Common.{◌≡◌, ◌<◌, ◌≤◌, ◌∙◌, ap, sym, subst, length, List, []}
use Rattle.std.proofs.lemmas.List.{length-map}
use Rattle.poly_graph.specs.Marks.{Mark}
use Rattle.poly_graph.specs.ProblemViews.{problem_of}
use Rattle.cover_model.specs.State.{state_of}
use Rattle.cover_model.specs.Rules.{can_combine}
use Rattle.cover_model.specs.Views.{multipliers_of}
use Rattle.cover_data.specs.Margins.{loosenings_of}
use Rattle.cover_rule.proofs.Combinables.{combined_some, combined_few}
use Rattle.cover_rule.proofs.combining.can_combine.Goals as goal

pub returns-clause-may : goal.returns-clause-may
returns-clause-may c =
    let p = problem_of c.args.problem.now in let s = loosenings_of c.args.margins.now in let S = c.args.state.now in let ms = multipliers_of c.args.multipliers.now in
    c.can_combine.ensures S.space ∙ ap (λ (marks : List Mark). can_combine p s (state_of S.space marks) ms) c.lits.ensures

pub returns-clause-some : goal.returns-clause-some
returns-clause-some c = λ h.
    let p = problem_of c.args.problem.now in let s = loosenings_of c.args.margins.now in let ms = multipliers_of c.args.multipliers.now in
    let n : length ms ≡ length c.args.multipliers.now = length-map _ _ in
    subst (λ k. 0 < k) n (combined_some p s (state_of [] c.lits.result.now) ms (sym (c.can_combine.ensures []) ∙ h))

pub returns-clause-few : goal.returns-clause-few
returns-clause-few c = λ h.
    let p = problem_of c.args.problem.now in let s = loosenings_of c.args.margins.now in let ms = multipliers_of c.args.multipliers.now in
    let n : length ms ≡ length c.args.multipliers.now = length-map _ _ in
    subst (λ k. k ≤ 512) n (combined_few p s (state_of [] c.lits.result.now) ms (sym (c.can_combine.ensures []) ∙ h))

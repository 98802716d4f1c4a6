-- The problem is that of the next check, and the book opens with what may be kept.
use Rattle.std.proofs.Common.{◌≡◌, ℕ, suc, ◌+◌, ◌-◌, [], Bool, cond, map, Some, ap, sym, ◌∙◌, subst, arith}
use Rattle.std.specs.Prelude.{slice_get}
use Rattle.poly_graph.specs.ProblemViews.{Parts, problem_of}
use Rattle.cover_model.specs.Carried.{GoesOnFrom}
use Rattle.cover_book.specs.Limits.{IsWithinLimits}
use Rattle.cover_book.specs.Model.{BookModel, problem_in, kept_from, opening_with}
use Rattle.solve_core.proofs.Sessions.{both_at, goes_on_at, within_at}
use Rattle.solve_core.proofs.run.open_next.Goals as goal

pub opened-requires-clause-limits : goal.opened-requires-clause-limits
opened-requires-clause-limits c =
    let ps = c.args.session.now in let k : ℕ = c.args.k in let one : (k - 1) + 1 ≡ k = omega (arith, c.requires.first) in
    let at = both_at ps k c.in_ok-problem.problem c.extends.result (subst (λ (i : ℕ). slice_get (map (λ q. q.0) ps) i ≡ Some c.in_ok-problem.problem) one c.in_ok-problem.ensures) c.extends.ensures in
    subst (λ (p : Parts). IsWithinLimits p c.args.old.now.options) (sym c.in_ok-copy.ensures) (within_at c.args.old.now.options ps c.requires.limits k c.in_ok-problem.problem c.extends.result at)

pub opened-requires-clause-on : goal.opened-requires-clause-on
opened-requires-clause-on c = λ t.
    let ps = c.args.session.now in let k : ℕ = c.args.k in let one : (k - 1) + 1 ≡ k = omega (arith, c.requires.first) in let next : k ≡ suc (k - 1) = omega (arith, c.requires.first) in
    let at = both_at ps k c.in_ok-problem.problem c.extends.result (subst (λ (i : ℕ). slice_get (map (λ q. q.0) ps) i ≡ Some c.in_ok-problem.problem) one c.in_ok-problem.ensures) c.extends.ensures in
    subst (λ (p : Parts). GoesOnFrom (problem_in c.args.old.now) (problem_of p)) (sym c.in_ok-copy.ensures)
    (goes_on_at ps c.requires.session (k - 1) c.args.old.now.problem c.in_ok-problem.problem c.extends.result c.requires.old (subst (λ (i : ℕ). slice_get ps i ≡ Some (c.in_ok-problem.problem, c.extends.result)) next at) t)

pub returns : goal.returns
returns c =
    let ps = c.args.session.now in let k : ℕ = c.args.k in let one : (k - 1) + 1 ≡ k = omega (arith, c.requires.first) in let next : k ≡ suc (k - 1) = omega (arith, c.requires.first) in
    let problem : Parts = c.in_ok-problem.problem in let on : Bool = c.extends.result in let old : BookModel = c.args.old.now in
    let at = subst (λ (i : ℕ). slice_get ps i ≡ Some (problem, on)) next (both_at ps k problem on (subst (λ (i : ℕ). slice_get (map (λ q. q.0) ps) i ≡ Some problem) one c.in_ok-problem.ensures) c.extends.ensures) in
    record {
      goes_on = on;
      check = at;
      book = c.in_ok-book.ensures ∙ ap (λ (p : Parts). opening_with p old.options (cond on (kept_from old p) [])) c.in_ok-copy.ensures;
    }

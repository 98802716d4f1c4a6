-- The book goes on from the opening book of the first problem.
use Rattle.std.proofs.Common.{◌≡◌, [], sym, subst, refl}
use Rattle.poly_graph.specs.ProblemViews.{Parts}
use Rattle.cover_data.specs.declared.margins.Options.{Options}
use Rattle.cover_data.specs.Margins.{options_in}
use Rattle.cover_book.specs.Model.{BookModel, opening}
use Rattle.cover_book.specs.Verdict.{verdict_of}
use Rattle.cover_book.specs.declared.verdict.BookVerdict.TheVariants as verdict
use Rattle.cover_book.specs.Left.{LeavesDue}
use Rattle.solve_core.specs.Reaches.{IsSearched}
use Rattle.solve_core.specs.Solved.{IsSolved, IsProblemAt}
use Rattle.solve_core.proofs.Reached.{searched_same}
use Rattle.solve_core.proofs.Sessions.{first_at, within_at, solved_from, ok_by}
use Rattle.solve_core.proofs.Together.{each_ok}
use Rattle.solve_core.proofs.run.solve_first.Goals as goal

pub solve-requires-after_bounds : goal.solve-requires-after_bounds
solve-requires-after_bounds g c = λ κs h. let at = first_at c.args.session.now c.in_ok-problem.problem c.in_ok-problem.ensures in within_at c.args.options.now c.args.session.now c.requires.limits 0 c.in_ok-problem.problem at.0 at.1

pub returns-clause-at : goal.returns-clause-at
returns-clause-at g c =
    let p : Parts = c.in_ok-problem.problem in
    each_ok (λ (b : BookModel). b.problem ≡ p) (λ (b : BookModel). IsProblemAt c.args.session.now 0 b.problem) c.solve.result
    (λ b h. subst (IsProblemAt c.args.session.now 0) (sym h) (first_at c.args.session.now p c.in_ok-problem.ensures)) c.solve.ensures.problem

pub returns-clause-kept : goal.returns-clause-kept
returns-clause-kept g c =
    let p : Parts = c.in_ok-problem.problem in
    each_ok (IsSearched (opening p (options_in 2 c.args.options.now))) (λ (b : BookModel). b.kept ≡ []) c.solve.result (λ b h. (searched_same h).2) c.solve.ensures.searched

pub returns-clause-solved : goal.returns-clause-solved
returns-clause-solved g c =
    let p : Parts = c.in_ok-problem.problem in let o : Options = options_in 2 c.args.options.now in
    ok_by (IsSearched (opening p o)) (λ (b : BookModel). verdict_of b ≡ verdict.NotYet → ⊥) LeavesDue LeavesDue IsSolved c.solve.result
    (λ b r v l w. solved_from (opening p o) b p o [] refl r v l) c.solve.ensures.searched c.solve.ensures.verdict c.solve.ensures.left c.solve.ensures.left

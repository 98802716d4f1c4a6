-- What the work on the whole box comes to is reached from the opening book.
use Rattle.std.proofs.Common.{◌≡◌, ◌∙◌, ap, subst}
use Rattle.poly_graph.specs.ProblemViews.{Parts}
use Rattle.cover_book.specs.Model.{BookModel, opening}
use Rattle.solve_core.specs.Reaches.{Reaches}
use Rattle.solve_core.proofs.run.close_whole.Goals as goal

pub returns-then-is_done-clause-reached : goal.returns-then-is_done-clause-reached
returns-then-is_done-clause-reached c =
    let made : c.in_ok-opened.opened ≡ opening c.args.problem.now c.args.options.now =
    c.in_ok-opened.ensures ∙ ap (λ (p : Parts). opening p c.args.options.now) c.in_ok-copy.ensures in
    subst (λ (b : BookModel). Reaches b c.in_ok-book.book) made c.in_ok-book.ensures.reached

pub returns-then-is_done-clause-left : goal.returns-then-is_done-clause-left
returns-then-is_done-clause-left c = c.in_ok-book.ensures.left c.if-is_done.true

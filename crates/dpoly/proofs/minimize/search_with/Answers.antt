use Rattle.std.proofs.Common.{◌≡◌, ap, ◌∙◌}
use Rattle.poly_graph.specs.ProblemViews.{Parts}
use Rattle.cover_book.specs.Model.{opening}
use Rattle.dpoly.proofs.Minimizing.{book_of}
use Rattle.dpoly.proofs.minimize.search_with.Goals as goal

pub returns : goal.returns
returns g c =
    let h = c.in_ok-book.ensures in
    let opens : c.in_ok-opened.opened ≡ opening c.args.problem.now c.args.options.now = c.in_ok-opened.ensures ∙ ap (λ (q : Parts). opening q c.args.options.now) c.in_ok-try_clone.ensures in
    book_of c.args.problem.now c.args.options.now c.in_ok-opened.opened c.in_ok-book.book opens h.problem h.version h.options h.kept h.root h.book h.verdict h.left

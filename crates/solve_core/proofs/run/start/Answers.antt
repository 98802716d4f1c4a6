use Rattle.std.proofs.Common.{ap, ◌∙◌}
use Rattle.cover_book.specs.Model.{BookModel}
use Rattle.solve_core.specs.Reaches.{Reaches}
use Rattle.solve_core.proofs.Reached.{reaches_same}
use Rattle.solve_core.proofs.run.start.Goals as goal

pub returns-clause-problem : goal.returns-clause-problem
returns-clause-problem g c =
    let r : Reaches c.in_ok-search.search.book c.start_work.new.search.book = c.start_work.ensures.reached in
    ap (λ (b : BookModel). b.problem) c.into_book.ensures ∙ (reaches_same r).0 ∙ ap (λ (b : BookModel). b.problem) c.in_ok-search.ensures.book ∙ c.requires

pub returns-clause-options : goal.returns-clause-options
returns-clause-options g c =
    let r : Reaches c.in_ok-search.search.book c.start_work.new.search.book = c.start_work.ensures.reached in
    ap (λ (b : BookModel). b.options) c.into_book.ensures ∙ (reaches_same r).1 ∙ ap (λ (b : BookModel). b.options) c.in_ok-search.ensures.book

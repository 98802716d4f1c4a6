-- What calls lead to is of the same problem and options.
use Rattle.std.proofs.Common.{◌∙◌}
use Rattle.solve_core.specs.Reaches.{Reaches}
use Rattle.solve_core.proofs.Reached.{reaches_same, reaches_through}
use Rattle.solve_core.proofs.Together.{each_ok}
use Rattle.solve_core.proofs.run.search_from.Goals as goal

pub finish-requires-2 : goal.finish-requires-2
finish-requires-2 g c =
    let t : Reaches c.args.book c.search_together-book.result = reaches_through c.in_ok-begun.ensures.reached c.search_together-book.ensures in
    (reaches_same t).0 ∙ c.requires.problem

pub returns-clause-reached : goal.returns-clause-reached
returns-clause-reached g c =
    let t : Reaches c.args.book c.search_together-book.result = reaches_through c.in_ok-begun.ensures.reached c.search_together-book.ensures in
    each_ok (Reaches c.search_together-book.result) (Reaches c.args.book) c.finish-2.result (λ b h. reaches_through t h) c.finish-2.ensures.reached

pub returns-then-not-matches-clause-reached : goal.returns-then-not-matches-clause-reached
returns-then-not-matches-clause-reached g c =
    each_ok (Reaches c.in_ok-begun.begun) (Reaches c.args.book) c.finish-then-not-matches.result (λ b h. reaches_through c.in_ok-begun.ensures.reached h) c.finish-then-not-matches.ensures.reached

-- Each live node waits, and the lemmas are those of the book.
use Rattle.solve_core.specs.declared.search.Search.{Search}
use Rattle.solve_core.proofs.Begins.{all_wait, begun}
use Rattle.solve_core.proofs.search.Search.resume.Goals as goal

pub returns-clause-search : goal.returns-clause-search
returns-clause-search c =
    let s : Search = record { book = c.args.book; waiting = c.in_ok-waiting.waiting; lemmas = c.in_ok-lemmas.lemmas; learns = c.has_choice-learns.result } in
    begun s c.problem.ensures.book c.first_handed.result c.in_ok-lemmas.ensures.0 c.in_ok-waiting.waiting.items (all_wait c.args.book c.in_ok-waiting.waiting.items c.in_ok-waiting.ensures)

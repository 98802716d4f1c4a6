use Rattle.std.proofs.Common.{ap, sym, ◌∙◌, arith}
use Rattle.cover_book.specs.Model.{raised}
use Rattle.solve_core.proofs.Sessions.{raise_next}
use Rattle.solve_core.proofs.run.raise_to.Goals as goal

pub loop-book-preserved : goal.loop-book-preserved
loop-book-preserved c =
    raise_next c.args.books.now c.loop-book.books c.loop-book.book-index c.book-item.result c.raise.new.self c.loop-book.invariant
    (omega (arith, c.loop-book-test.true, c.loop-book.auto.books)) c.book-item.is
    (c.raise.ensures ∙ ap raised (sym c.book-item.is))

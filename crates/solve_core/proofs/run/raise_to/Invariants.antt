use Rattle.std.proofs.Common.{◌≡◌}
use Rattle.solve_core.proofs.Sessions.{raised_so_far}
use Rattle.solve_core.proofs.run.raise_to.Given as goal

-- those that were passed have gone over
abbrev pub invariant-loop-book : goal.invariant-loop-book
invariant-loop-book l = l.books ≡ raised_so_far l.fn.books l.book-index

use Rattle.std.proofs.Common.{sym, subst}
use Rattle.cover_book.specs.Left.{LeavesDue}
use Rattle.solve_core.proofs.Reached.{reaches_from}
use Rattle.solve_core.proofs.run.begin.Goals as goal

pub returns-clause-reached : goal.returns-clause-reached
returns-clause-reached g c = reaches_from c.in_ok-search.ensures.book c.work_at_first.ensures.reached c.into_book.ensures

pub returns-clause-left : goal.returns-clause-left
returns-clause-left g c e = subst LeavesDue (sym c.into_book.ensures) (c.in_ok-is_done.ensures.left e)

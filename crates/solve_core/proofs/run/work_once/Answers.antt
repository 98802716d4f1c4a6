use Rattle.std.proofs.Common.{refl, sym, subst}
use Rattle.cover_book.specs.Left.{LeavesDue}
use Rattle.solve_core.proofs.Ends.{leaves_due, same_search}
use Rattle.solve_core.proofs.Reached.{same_reaches}
use Rattle.solve_core.proofs.run.work_once.Goals as goal

pub returns-in_default-clause-search : goal.returns-in_default-clause-search
returns-in_default-clause-search g c = same_search c.args.search.now c.next.new.self c.next.ensures.book c.next.ensures.lemmas (c.in_default.ensures.same refl) c.requires.search

pub returns-in_default-clause-over : goal.returns-in_default-clause-over
returns-in_default-clause-over g c = λ _. subst LeavesDue (sym c.next.ensures.book) (leaves_due c.args.search.now c.requires.search (c.in_default.ensures.none refl))

pub returns-in_default-clause-reached : goal.returns-in_default-clause-reached
returns-in_default-clause-reached g c = same_reaches c.next.ensures.book

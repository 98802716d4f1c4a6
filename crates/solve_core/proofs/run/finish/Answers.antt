use Rattle.std.proofs.Common.{◌≡◌, sym, subst}
use Rattle.cover_book.specs.Model.{BookModel}
use Rattle.cover_book.specs.declared.verdict.BookVerdict.TheVariants as verdict
use Rattle.cover_book.specs.Verdict.{verdict_of}
use Rattle.cover_book.specs.Left.{LeavesDue}
use Rattle.solve_core.proofs.Ends.{not_not_yet}
use Rattle.solve_core.proofs.run.finish.Goals as goal

pub returns-clause-verdict : goal.returns-clause-verdict
returns-clause-verdict g c = subst (λ (b : BookModel). verdict_of b ≡ verdict.NotYet → ⊥) (sym c.into_book.ensures) (not_not_yet c.finish_work.new.search.book c.in_ok-finish_work.ensures.left)

pub returns-clause-left : goal.returns-clause-left
returns-clause-left g c = subst LeavesDue (sym c.into_book.ensures) c.in_ok-finish_work.ensures.left

use Rattle.std.proofs.Common.{◌≡◌, refl, ◌∙◌, subst}
use Rattle.book_lock.specs.declared.shared.SharedBook.{SharedBook}
use Rattle.book_lock.specs.Shared.{IsOnePartSeatOf}
use Rattle.solve_core.proofs.member.Member.work.Goals as goal

pub returns-in-None : goal.returns-in-None
returns-in-None g c =
    let a = c.run-in-None.new.source in
    let e : a.shared.now ≡ c.args.task.now.shared.now = c.run-in-None.ensures.alike c.args.self.now.asker refl ∙ c.requires.asker.shared in record {
      worker = c.run-in-None.ensures.seat;
      asker = subst (λ (s : SharedBook). IsOnePartSeatOf s a.seat) e c.run-in-None.ensures.source.seat;
    }

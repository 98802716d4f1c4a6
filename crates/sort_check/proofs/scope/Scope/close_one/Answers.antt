use Rattle.std.proofs.Common.{refl}
use Rattle.sort_check.proofs.Held.{closes_one, same_known}
use Rattle.sort_check.proofs.scope.Scope.close_one.Goals as goal

pub returns-in-Some : goal.returns-in-Some
returns-in-Some c = λ theory s l h.
    closes_one theory s c.args.self.now _ l c.in-Some.mark
    (λ k. same_known theory s c.forget_to.new.self _ refl refl (c.forget_to.ensures.known theory s (same_known theory s c.args.self.now _ refl refl k)))
    c.forget_to.ensures.rest refl (rw c.forget_to.ensures.marks c.in-Some.ensures.items) h

use Rattle.std.proofs.Common.{◌≡◌, Some, None, sym, ◌∙◌, subst}
use Rattle.book_lock.specs.Rule.{IsClosing}
use Rattle.book_lock.proofs.Allowed.{closing_of}
use Rattle.book_lock.proofs.lock.SharedObject.close.Goals as goal

pub unreachable-requires : goal.unreachable-requires
unreachable-requires g c =
    let i = c.requires.rest in
    let t = closing_of g.O.Object.meets g.O.Object.steps _ _ _ _ _ _ _ c.close_with-closed.ensures.values.2 c.requires.whole i.0 i.2 i.3 c.take-object.ensures.value in
    let e : Some t.0 ≡ None = sym t.1 ∙ c.in-None.is in
    cc

pub returns : goal.returns
returns g c =
    let i = c.requires.rest in
    let t = closing_of g.O.Object.meets g.O.Object.steps _ _ _ _ _ _ _ c.close_with-closed.ensures.values.2 c.requires.whole i.0 i.2 i.3 c.take-object.ensures.value in
    let p : Some t.0 ≡ Some c.in-Some.object = sym t.1 ∙ c.in-Some.is in
    let e : t.0 ≡ c.in-Some.object = cc in
    subst (λ (z : g.row.O.Denot). IsClosing g.O.Object.meets g.O.Object.steps c.args.self.table.shared.key.first.value c.args.seat.me.0 z) e t.2

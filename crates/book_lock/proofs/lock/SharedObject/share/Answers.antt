use Rattle.std.proofs.Common.{rules, ◌≡◌, List, [], ◌∷◌, ◌++◌, Option, Some, sym, ap, ◌∙◌, ◌<◌, subst}
use Rattle.book_lock.specs.Rule.{LockInvariant, first_view}
use Rattle.atomic_table.specs.Table.{opening}
use Rattle.book_lock.proofs.Allowed.{opening_holds}
use Rattle.book_lock.proofs.lock.SharedObject.share.Goals as goal

pub new-requires : goal.new-requires
new-requires g c =
    let x : Option g.row.O.Denot = Some c.args.object in
    let items : c.push_reserved.new.self.items ≡ x ∷ [] = c.push_reserved.ensures.items ∙ ap (λ l. l ++ x ∷ []) c.in-Ok.ensures.items in
    let some_part : 0 < c.from.result = search rules in
    subst (λ (l : List (Option g.row.O.Denot)). LockInvariant g.O.Object.meets g.O.Object.steps c.of.result.value c.from.result (opening (0 ∷ []) l (first_view c.of.result.value c.from.result)))
    (sym items) (opening_holds g.O.Object.meets g.O.Object.steps c.of.result.value c.from.result x (ap Some (sym c.of.ensures)) some_part)

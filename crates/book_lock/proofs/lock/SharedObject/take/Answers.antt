use Rattle.std.proofs.Common.{rules, ◌∷◌, Some, sym, ap, ◌∙◌}
use Rattle.atomic_table.specs.Table.{rest}
use Rattle.book_lock.proofs.lock.SharedObject.take.Goals as goal

pub exchange-requires : goal.exchange-requires
exchange-requires g c = let h = c.requires.slot in (search rules, (Some h.0, h.1 ∙ ap (λ l. (0, Some h.0) ∷ rest l) (sym h.1)))

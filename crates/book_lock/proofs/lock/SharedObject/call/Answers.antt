use Rattle.std.proofs.Common.{sym, ap, ◌∙◌, subst}
use Rattle.book_lock.proofs.Rows.{still_meets}
use Rattle.book_lock.proofs.Allowed.{took_is}
use Rattle.book_lock.proofs.lock.SharedObject.call.Goals as goal

pub run-reply-requires : goal.run-reply-requires
run-reply-requires g c =
    let t = took_is g.O.Object.meets g.O.Object.steps c.args.seat.now.me c.enter.new.seat.me c.take-object.result c.enter.ensures.turn c.take-object.ensures.object in
    let reach = t.1 _ c.requires.origin in
    still_meets g.O.Object.meets g.O.Object.steps g.met.O.Object.lasts _ _ reach.0 c.args.call reach.1 c.requires.meets

pub leave-requires-clause-made : goal.leave-requires-clause-made
leave-requires-clause-made g c =
    let t = took_is g.O.Object.meets g.O.Object.steps c.args.seat.now.me c.enter.new.seat.me c.take-object.result c.enter.ensures.turn c.take-object.ensures.object in
    let reach = t.1 _ c.requires.origin in
    let may = still_meets g.O.Object.meets g.O.Object.steps g.met.O.Object.lasts _ _ reach.0 c.args.call reach.1 c.requires.meets in
    let said = c.of-said.ensures in (
      c.take-object.result,
      ap (λ v. v.stage) c.take-object.ensures.view ∙ ap (λ v. v.stage) t.0,
      subst (λ (z : g.row.C.Denot). g.O.Object.meets c.take-object.result z) (sym said) may,
      subst (λ (z : g.row.C.Denot). g.O.Object.steps c.take-object.result z c.run-reply.result c.run-reply.new.self) (sym said) c.run-reply.ensures,
    )

use Rattle.std.proofs.Common.{rules, ◌∷◌, Some, None, sym, ap, ◌∙◌, subst}
use Rattle.atomic_table.specs.Table.{rest}
use Rattle.book_lock.specs.SlotSteps.{IsCallOf}
use Rattle.book_lock.specs.declared.views.SeatView.{SeatView}
use Rattle.book_lock.proofs.Allowed.{end_allowed}
use Rattle.book_lock.proofs.lock.SharedObject.leave.Goals as goal

pub exchange-requires : goal.exchange-requires
exchange-requires g c = (search rules, (None, c.requires.turn.0 ∙ ap (λ l. (0, None) ∷ rest l) (sym c.requires.turn.0)))

pub swap-before-requires : goal.swap-before-requires
swap-before-requires g c =
    let now = c.exchange.ensures.3 in
    let made = c.requires.made in (
      search rules,
      search rules,
      end_allowed g.O.Object.meets g.O.Object.steps _ _ _ _ _ made.0 c.args.object _ _ c.args.said.value c.args.reply.now (ap (λ m. m.1) now ∙ ap (λ l. (0, Some c.args.object) ∷ rest l) c.requires.turn.0)
          (ap (λ m. m.0.stage) now ∙ made.1) (ap (λ m. m.0.named) now ∙ c.requires.turn.1) c.requires.call c.requires.reply made.2 made.3,
    )

pub returns-clause-slots : goal.returns-clause-slots
returns-clause-slots g c =
    let now = c.exchange.ensures.3 in
    let told = c.swap-before.ensures.2 c.args.said.value c.args.reply.now c.requires.call c.requires.reply in
    told.1 ∙ ap (λ m. rest m.1) now ∙ ap rest c.requires.turn.0

pub returns-clause-call : goal.returns-clause-call
returns-clause-call g c =
    let now = c.exchange.ensures.3 in
    let told = c.swap-before.ensures.2 c.args.said.value c.args.reply.now c.requires.call c.requires.reply in
    subst (λ (v : SeatView g.row.O.Denot g.row.C.Denot g.row.R.Denot). IsCallOf g.O.Object.meets g.O.Object.steps v c.args.said.value c.args.reply.now c.swap-before.new.seat.me.0) (ap (λ m. m.0) now) told.0

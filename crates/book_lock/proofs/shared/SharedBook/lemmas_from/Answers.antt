use Rattle.std.proofs.Common.{ap, ◌∙◌, subst}
use Rattle.cover_book.specs.Steps.{MayBeCalled, BookStep}
use Rattle.cover_book.specs.declared.calls.Call.TheVariants.{LemmasFrom}
use Rattle.cover_book.specs.declared.calls.Reply.{Reply}
use Rattle.cover_book.specs.declared.calls.Reply.TheVariants.{Refused}
use Rattle.book_lock.specs.Shared.{view}
use Rattle.book_lock.specs.SlotSteps.{IsCallOf}
use Rattle.book_lock.proofs.Allowed.{made_step}
use Rattle.book_lock.proofs.Replies.{lemma_replies, lemmas_refused}
use Rattle.book_lock.proofs.shared.SharedBook.lemmas_from.Goals as goal

pub returns-in-Refused-clause-err : goal.returns-in-Refused-clause-err
returns-in-Refused-clause-err g c =
    let t = made_step MayBeCalled BookStep _ _ _ _ _ c.requires.1 c.call.ensures.call in
    let refused = subst (λ (r : Reply). BookStep t.0 (LemmasFrom c.args.from) r t.1) c.in-Refused.is t.2 in
    let memory = lemmas_refused t.0 t.1 c.args.from c.in-Refused.field-0 refused in
    subst (λ (r : Reply). IsCallOf MayBeCalled BookStep (view c.args.seat.now) (LemmasFrom c.args.from) r c.call.new.seat.me.0) (c.in-Refused.is ∙ ap Refused memory) c.call.ensures.call

pub unreachable-requires : goal.unreachable-requires
unreachable-requires g c =
    let t = made_step MayBeCalled BookStep _ _ _ _ _ c.requires.1 c.call.ensures.call in
    lemma_replies t.0 t.1 _ _ t.2 c.in_default.not-Lemmas c.in_default.not-Refused

-- The lemma that is kept is the patch's, so the book stays one.
use Rattle.std.proofs.Common.{◌<◌, List, [], ◌∷◌, ◌++◌, ◌∙◌, ap, sym, subst}
use Rattle.cover_data.specs.Views.{kept_of}
use Rattle.cover_book.specs.declared.calls.Call.TheVariants as call
use Rattle.cover_book.specs.declared.calls.Reply.TheVariants as reply
use Rattle.cover_book.specs.declared.node.Learned.{Learned}
use Rattle.cover_book.specs.Model.{BookModel, lemma_count}
use Rattle.cover_book.specs.Steps.{MayBeCalled, QuotesKnownLemmas, most_lemmas}
use Rattle.cover_book.proofs.Kept.{step_keeps_book}
use Rattle.cover_book.proofs.Stores.{stored_lemma, lemma_pushed}
use Rattle.cover_book.proofs.book.Book.keep_lemma.Goals as goal

pub invariant_of-self-2 : goal.invariant_of-self-2
invariant_of-self-2 c =
    let known = subst (λ (b : BookModel). QuotesKnownLemmas b (kept_of c.args.patch).quoted) (sym c.self.view_is) c.requires.known in
    let room = subst (λ (b : BookModel). lemma_count b < most_lemmas) (sym c.self.view_is) c.requires.room in
    let meets = subst (λ (b : BookModel). MayBeCalled b (call.Learn (kept_of c.args.patch))) (sym c.self.view_is) c.requires.meets in
    let lemma = c.in-Ok.lemma in let is = c.in-Ok.ensures in
    step_keeps_book _ c.self.invariant (call.Learn (kept_of c.args.patch)) meets (reply.Learned _) _
    (stored_lemma _ c.args.patch lemma.lines.end is.2 known room c.on_grid.ensures c.on_grid-2.ensures _
    (lemma_pushed c.self.inside.lemmas.items c.push_reserved.new.self.items c.args.patch lemma (c.push_reserved.ensures.items ∙ ap (λ (xs : List Learned). xs ++ (lemma ∷ [])) c.reserve.ensures.items) is.0 is.1))

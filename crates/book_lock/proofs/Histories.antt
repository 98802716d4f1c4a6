-- Histories of a book lead to later books.
use Rattle.std.proofs.Common.{List, [], ◌∷◌, ◌++◌, length, refl, sym, ◌∙◌, subst, arith, le_refl}
use Rattle.cover_book.specs.Model.{BookModel}
use Rattle.cover_book.specs.Keeps.{IsBook}
use Rattle.cover_book.specs.Laws.{IsLaterBook}
use Rattle.cover_book.specs.Steps.{MayBeCalled, BookStep}
use Rattle.cover_book.specs.declared.calls.Call.{Call}
use Rattle.cover_book.specs.declared.calls.Reply.{Reply}
use Rattle.cover_book.proofs.Grown.{step_keeps_problem, step_grows}
use Rattle.cover_book.proofs.Kept.{step_keeps_book}
use Rattle.book_lock.specs.declared.views.Entry.{Entry}
use Rattle.book_lock.specs.History.{entry, IsLegal}
use Rattle.book_lock.specs.Laws.{IsBookHistory, IsBookAfter, HistoryKeepsBook, HistoryHasBooks, ReplyIsOfBook}
use Rattle.book_lock.specs.Shared.{view}

grows_again : (a b c : BookModel) → IsLaterBook a b → IsLaterBook b c → IsLaterBook a c
grows_again a b c g h = let m = g.count in let n = h.count in record {
  count = omega arith;
  lasting = λ i x at over. h.lasting i x (g.lasting i x at over) over;
}

later_same : (b : BookModel) → IsBook b → IsBookAfter b b
later_same b w = record {
  book = w;
  problem = refl;
  options = refl;
  kept = refl;
  root = refl;
  grows = record { count = le_refl (length b.nodes); lasting = λ i x at over. at };
}

later_step : (b m m' : BookModel) (c : Call) (r : Reply) → IsBookAfter b m → MayBeCalled m c → BookStep m c r m' → IsBookAfter b m'
later_step b m m' c r l h s = let same = step_keeps_problem m c r m' s in record {
  book = step_keeps_book m l.book c h r m' s;
  problem = same.0 ∙ l.problem;
  options = same.1 ∙ l.options;
  kept = same.2 ∙ l.kept;
  root = same.3 ∙ l.root;
  grows = grows_again b m m' l.grows (step_grows m c r m' s);
}

later_after : (b m b' : BookModel) (log : List (Entry Call Reply)) → IsBookAfter b m → IsBookHistory m log b' → IsBookAfter b b'
later_after b m b' [] l h = subst (IsBookAfter b) (sym h) l
later_after b m b' (e ∷ es) l h = later_after b h.0 b' es (later_step b m h.0 e.call e.reply l h.1 h.2) h.3

pub history_keeps_book : HistoryKeepsBook
history_keeps_book b b' log w h = later_after b b b' log (later_same b w) h

pub history_has_books : HistoryHasBooks
history_has_books b b' [] ys h = (b, refl, h)
history_has_books b b' (e ∷ xs) ys h = let t = history_has_books h.0 b' xs ys h.3 in (t.0, (h.0, h.1, h.2, t.1), t.2)

pub reply_is_of_book : ReplyIsOfBook
reply_is_of_book b seat seat' c r w o x =
    let last : Entry Call Reply = entry (view seat).number c r in
    let legal = subst (IsLegal MayBeCalled BookStep b) x.seen (x.legal b o) in
    let t = history_has_books b legal.0 ((view seat).seen ++ x.between) (last ∷ []) legal.1 in (
      t.0,
      t.2.0,
      history_keeps_book b t.0 ((view seat).seen ++ x.between) w t.1,
      t.2.2,
    )

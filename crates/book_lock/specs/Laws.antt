-- What holds of the books of a history.
use Rattle.std.specs.Prelude.{◌≡◌, List, ◌++◌, Some}
use Rattle.cover_book.specs.Model.{BookModel}
use Rattle.cover_book.specs.Keeps.{IsBook}
use Rattle.cover_book.specs.Laws.{IsLaterBook}
use Rattle.cover_book.specs.Steps.{MayBeCalled, BookStep}
use Rattle.cover_book.specs.declared.calls.Call.{Call}
use Rattle.cover_book.specs.declared.calls.Reply.{Reply}
use Rattle.book_lock.specs.declared.views.Entry.{Entry}
use Rattle.book_lock.specs.History.{IsHistory}
use Rattle.book_lock.specs.Shared.{BookSeat, view, IsReply}

-- these calls lead from the first book to the last
abbrev pub IsBookHistory : BookModel → List (Entry Call Reply) → BookModel → Type 0
IsBookHistory = IsHistory MayBeCalled BookStep

-- a book of the same problem and options, which opened with the same lemmas, in which no number was used again and each node has left being live at most once
pub record IsBookAfter (b b' : BookModel) : Type 0 where
  pub book : IsBook b'
  pub problem : b'.problem ≡ b.problem
  pub options : b'.options ≡ b.options
  pub kept : b'.kept ≡ b.kept
  pub root : b'.root ≡ b.root
  pub grows : IsLaterBook b b'

-- A history leads to a later book.
abbrev pub HistoryKeepsBook : Type 0
HistoryKeepsBook = (b b' : BookModel) (log : List (Entry Call Reply)) → IsBook b → IsBookHistory b log b' → IsBookAfter b b'

-- Between any two of its calls there is a book.
abbrev pub HistoryHasBooks : Type 0
HistoryHasBooks = (b b' : BookModel) (xs ys : List (Entry Call Reply)) → IsBookHistory b (xs ++ ys) b' → (m : BookModel) × IsBookHistory b xs m × IsBookHistory m ys b'

-- A reply is the one that a book later than the shared one gives.
abbrev pub ReplyIsOfBook : Type 0
ReplyIsOfBook = (b : BookModel) (seat seat' : BookSeat) (c : Call) (r : Reply) → IsBook b → (view seat).origin ≡ Some b → IsReply seat c r seat' →
    (m : BookModel) × (m' : BookModel) × IsBookAfter b m × BookStep m c r m'

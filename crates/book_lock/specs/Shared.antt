-- What the calls of a shared book say.
use Rattle.std.specs.Prelude.{◌≡◌, ◌≢◌, ℕ, [], Some, Result, MatchResult}
use mathlib.Core.List.{IsPrefix}
use Rattle.cover_book.specs.Model.{BookModel}
use Rattle.cover_book.specs.Steps.{MayBeCalled, BookStep}
use Rattle.cover_book.specs.declared.calls.Call.{Call}
use Rattle.cover_book.specs.declared.calls.Reply.{Reply}
use Rattle.cover_book.specs.declared.calls.Reply.TheVariants.{Refused}
use Rattle.cover_book.specs.declared.refusal.BookRefusal.{BookRefusal}
use Rattle.book_lock.specs.declared.shared.SharedBook.{SharedBook}
use Rattle.book_lock.specs.declared.seat.ObjectSeat.{ObjectSeat}
use Rattle.book_lock.specs.declared.views.SeatView.{SeatView}
use Rattle.book_lock.specs.History.{calls_by}
use Rattle.book_lock.specs.Rule.{IsClosing, left_view, shorter, matched_view}
use Rattle.book_lock.specs.SlotSteps.{IsCallOf}

-- ---- a shared book and its seats

abbrev pub BookView : Type 0
BookView = SeatView BookModel Call Reply

abbrev pub BookSeat : Type 0
BookSeat = ObjectSeat BookModel Call Reply

-- what a seat has seen and done
abbrev pub view : BookSeat → BookView
view seat = seat.place.me.0

-- the book that was shared, and the number of its parts
abbrev pub first_of : SharedBook → BookModel
first_of s = s.lock.table.shared.key.first.value

abbrev pub parts_of : SharedBook → ℕ
parts_of s = s.lock.table.shared.key.parts

abbrev pub IsSeatOf : SharedBook → BookSeat → Type 0
IsSeatOf s seat = (seat.place.table_id ≡ s.lock.table.shared.table_id) × ((view seat).origin ≡ Some (first_of s))

-- a seat with one part
abbrev pub IsOnePartSeatOf : SharedBook → BookSeat → Type 0
IsOnePartSeatOf s seat = IsSeatOf s seat × ((view seat).parts ≡ 1)

-- ---- calls

-- the call has this reply at the end of a legal history that begins with all that the seat had seen; now the seat has seen it
abbrev pub IsReply : BookSeat → Call → Reply → BookSeat → Type 0
IsReply seat c r seat' = IsCallOf MayBeCalled BookStep (view seat) c r (view seat')

-- the reply of a call that answers a result: the reply to its value, or a refusal
abbrev pub ResultReply : {X : Type 0} → (X → Reply) → BookSeat → Call → Result X BookRefusal → BookSeat → Type 0
ResultReply reply seat c answer seat' = MatchResult answer (λ x. IsReply seat c (reply x) seat') (λ e. IsReply seat c (Refused e) seat')

-- the seat loses a part to the new one, which has a number of its own and no calls, and has seen as much
pub record IsSplit (seat seat' new : BookSeat) : Type 0 where
  pub left : view seat' ≡ left_view (view seat)
  pub new_view : view new ≡ record (view seat) { number = (view new).number; parts = 1; mine = []; beside = []; joined = [] }
  pub other : (view new).number ≢ (view seat).number
  pub none_seen : calls_by (view new).number (view seat).seen ≡ []

-- the seat has the other's parts, and its calls beside those of the seats that were joined before; of the two histories it has seen the longer, which the other begins
pub record IsJoined (seat other seat' : BookSeat) : Type 0 where
  pub view_is : view seat' ≡ matched_view (view seat) (view other)
  pub prefix : IsPrefix (shorter (view seat).seen (view other).seen) (view seat').seen

-- the book at the end is what one legal history leaves, which begins with all that the seat had seen, and has its calls, those of the seats joined to it, and no others
abbrev pub IsOutcome : SharedBook → BookSeat → BookModel → Type 0
IsOutcome s seat b = IsClosing MayBeCalled BookStep (first_of s) (view seat) b

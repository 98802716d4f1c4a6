-- Workers on a shared book.
use Rattle.std.specs.Prelude.{◌≡◌, ℕ, All, false, Some, None, IfSome, IsTrue}
use Rattle.interval_model.specs.Space.{space_within}
use Rattle.cover_model.specs.Fits.{FitsProblem}
use Rattle.cover_model.specs.Root.{root_space}
use Rattle.cover_model.specs.State.{State}
use Rattle.cover_book.specs.Keeps.{IsBook}
use Rattle.cover_book.specs.Model.{BookModel, problem_in, loosenings_in}
use Rattle.cover_book.specs.Steps.{MayBeCalled}
use Rattle.cover_book.specs.declared.calls.Call.TheVariants.{Commit, Learn, Find}
use Rattle.box_worker.specs.declared.worked.Worked.{Worked}
use Rattle.box_worker.specs.declared.worked.Worked.TheVariants.{Patch, Closed, Point}
use Rattle.box_worker.specs.Worked.{AreLemmasFor}
use Rattle.book_lock.specs.declared.shared.SharedBook.{SharedBook}
use Rattle.book_lock.specs.Shared.{IsOnePartSeatOf, first_of}
use Rattle.steal_pool.specs.Account.{has_left}
use Rattle.solve_core.specs.declared.open_box.OpenBox.{OpenBox}
use Rattle.solve_core.specs.declared.worker.Worker.{Worker}

-- its seat is one of the book, with one part
abbrev pub HasSeatOf : SharedBook → Worker → Type 0
HasSeatOf s w = IsOnePartSeatOf s w.seat

-- a state of the book's problem that lies within the root
abbrev pub LiesInBook : BookModel → State → Type 0
LiesInBook b S = FitsProblem (problem_in b) S × IsTrue (space_within S.space (root_space (problem_in b)))

-- so does the state of a box, where it is known
abbrev pub IsOpenBoxOf : BookModel → OpenBox → Type 0
IsOpenBoxOf b x = IfSome x.state (LiesInBook b)

-- it has such a seat at what was shared as a book, its hand has not left, its boxes lie in the book, and its lemmas hold of the book's problem
pub record IsWorkerOf (s : SharedBook) (w : Worker) : Type 0 where
  pub book : IsBook (first_of s)
  pub seat : HasSeatOf s w
  pub stays : has_left w.hand ≡ false
  pub waiting : All (IsOpenBoxOf (first_of s)) w.waiting.items
  pub lemmas : AreLemmasFor (problem_in (first_of s)) (loosenings_in (first_of s)) w.lemmas.items

-- what came of the work on a node may be handed to the book
abbrev pub MayBeKept : BookModel → ℕ → Worked → Type 0
MayBeKept b n (Patch P) = MayBeCalled b (Commit n P) × LiesInBook b P.first
MayBeKept b n (Closed P None) = MayBeCalled b (Commit n P)
MayBeKept b n (Closed P (Some k)) = MayBeCalled b (Commit n P) × MayBeCalled b (Learn k)
MayBeKept b n (Point x) = MayBeCalled b (Find n x)

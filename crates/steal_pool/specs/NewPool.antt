-- A pool while it is made.
use Rattle.std.specs.Prelude.{◌≡◌, ℕ, ◌<◌, ◌≤◌, false, List, [], length, slice_index_or}
use Rattle.crossbeam_deque.specs.Handles.{view, worker_deque, worker_view, stealer_deque}
use Rattle.steal_pool.specs.declared.deque.Link.{Link}
use Rattle.steal_pool.specs.declared.hand.Hand.{Hand}
use Rattle.steal_pool.specs.Law.{left_view, thief_view, owner_view}

-- the hand has all rights at its deque, which is empty, and has room
pub record IsNew (h : Hand) : Type 0 where
  pub view : worker_view h.own.worker ≡ owner_view
  pub left : h.left ≡ false
  pub room : 256 ≤ h.own.room

-- nothing was put into the hand's deque or taken from it
pub record IsBare (h : Hand) : Type 0 where
  pub put : (worker_view h.own.worker).put ≡ []
  pub taken : (worker_view h.own.worker).taken ≡ []
  pub joined : (worker_view h.own.worker).joined ≡ []
  pub left : h.left ≡ false
  pub room : 256 ≤ h.own.room

-- each hand has more than n parts of the right to know its deque
abbrev pub HavePartsOver : List Hand → ℕ → Type 0
HavePartsOver hands n = (k : ℕ) (d : Hand) → k < length hands → n < (worker_view (slice_index_or hands k d).own.worker).parts

-- the link is to the deque of the hand, and has taken nothing
pub record IsLinked (h : Hand) (l : Link) : Type 0 where
  pub deque : stealer_deque l.stealer ≡ worker_deque h.own.worker
  pub view : view l.pass ≡ thief_view

-- link k is to the deque of hand k, and has taken nothing
abbrev pub LinkedHands : List Hand → List Link → Type 0
LinkedHands hands links = (length links ≡ length hands) × ((k : ℕ) (d : Hand) (e : Link) → k < length hands → IsLinked (slice_index_or hands k d) (slice_index_or links k e))

-- one part has left the hand
pub record LosesPart (h h' : Hand) : Type 0 where
  pub deque : worker_deque h'.own.worker ≡ worker_deque h.own.worker
  pub view : worker_view h'.own.worker ≡ left_view (worker_view h.own.worker)
  pub links : h'.links ≡ h.links
  pub left : h'.left ≡ h.left
  pub room : h'.own.room ≡ h.own.room

abbrev pub AllLosePart : List Hand → List Hand → Type 0
AllLosePart hands hands' = (length hands' ≡ length hands) × ((k : ℕ) (d : Hand) → k < length hands → LosesPart (slice_index_or hands k d) (slice_index_or hands' k d))

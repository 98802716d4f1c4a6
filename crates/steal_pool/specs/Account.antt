-- What contracts see of a hand.
use Rattle.std.specs.Prelude.{◌≡◌, ◌⊎◌, ℕ, ◌<◌, Bool, true, List, [], ◌∷◌, ◌++◌, length, map, slice_index_or, slice_set}
use Rattle.std.specs.declared.alloc.Global.{Global}
use Rattle.atomic_blocks.specs.Lent.{RowsId}
use Rattle.crossbeam_deque.specs.Handles.{view, worker_deque, worker_view, stealer_deque}
use Rattle.steal_pool.specs.declared.deque.Link.{Link}
use Rattle.steal_pool.specs.declared.hand.Hand.{Hand}
use Rattle.steal_pool.specs.Links.{looks_in, found_empty_in}

-- the ids that a hand pushed, those that it popped from its own deque, and for each hand of the pool those that it stole from its deque, all in their order
pub record Account : Type 0 where
  pub pushed : List ℕ
  pub popped : List ℕ
  pub stolen : List (List ℕ)

abbrev pub taken_by : Link → List ℕ
taken_by l = (view l.pass).taken

abbrev pub account_of : Hand → Account
account_of h = record { pushed = (worker_view h.own.worker).put; popped = (worker_view h.own.worker).taken; stolen = map taken_by h.links.items }

-- which deque a link leads to
abbrev pub deque_of : Link → RowsId × Global
deque_of l = stealer_deque l.stealer

-- Where a hand stands in its pool, which none of its calls changes: its own deque and that one's room, the deques that it steals from, and what it has of the right to know its own deque whole
pub record Place : Type 0 where
  pub own : RowsId × Global
  pub deques : List (RowsId × Global)
  pub parts : ℕ
  pub joined : List (List ℕ)
  pub room : ℕ

abbrev pub place_of : Hand → Place
place_of h = record { own = worker_deque h.own.worker; deques = map deque_of h.links.items; parts = (worker_view h.own.worker).parts; joined = (worker_view h.own.worker).joined; room = h.own.room }

-- how many ids the hand can push before one comes back
abbrev pub room_of : Hand → ℕ
room_of h = h.own.room

-- how many hands its pool has
abbrev pub hands_beside : Hand → ℕ
hands_beside h = length h.links.items

abbrev pub has_left : Hand → Bool
has_left h = h.left

-- how often it looked at each deque, and whether the last look found it empty
abbrev pub looks_of : Hand → List ℕ
looks_of h = map looks_in h.links.items

abbrev pub found_empty_of : Hand → List Bool
found_empty_of h = map found_empty_in h.links.items

-- how often it read the count of resting hands, and what it read last
abbrev pub reads_of : Hand → ℕ
reads_of h = h.count.seat.me.0.reads

abbrev pub last_read : Hand → ℕ
last_read h = h.count.seat.me.0.last

-- the next id was popped or stolen
abbrev pub Takes : ℕ → Account → Account → Type 0
Takes x a b =
    (b ≡ record a { popped = a.popped ++ x ∷ [] })
    ⊎ ((k : ℕ) × (k < length a.stolen) × (b ≡ record a { stolen = slice_set a.stolen k (slice_index_or a.stolen k [] ++ x ∷ []) }))

-- the hand looked at every deque, the last look found each empty, and then it read that all hands rest
pub record FoundNothing (old new : Hand) : Type 0 where
  pub same : account_of new ≡ account_of old
  pub looked : (k : ℕ) → k < hands_beside old → slice_index_or (looks_of old) k 0 < slice_index_or (looks_of new) k 0
  pub empty : (k : ℕ) → k < hands_beside old → slice_index_or (found_empty_of new) k true ≡ true
  pub read : reads_of old < reads_of new
  pub resting : last_read new ≡ hands_beside old

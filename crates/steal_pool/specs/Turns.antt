-- What the parts of a turn do to a hand.
use Rattle.std.specs.Prelude.{◌≡◌, ◌⊎◌, ℕ, ◌<◌, ◌≤◌, [], ◌∷◌, ◌++◌, length}
use Rattle.crossbeam_deque.specs.Handles.{worker_deque, worker_view}
use Rattle.steal_pool.specs.declared.deque.OwnDeque.{OwnDeque}
use Rattle.steal_pool.specs.declared.hand.Hand.{Hand}
use Rattle.steal_pool.specs.Links.{AllAlike, AllLookedInVain, Steals}
use Rattle.steal_pool.specs.Account.{reads_of}

-- only whether it rests has changed
pub record ChangesRest (old new : Hand) : Type 0 where
  pub own : new.own ≡ old.own
  pub links : new.links ≡ old.links
  pub left : new.left ≡ old.left
  pub reads : reads_of new ≡ reads_of old

-- the count was read, at least once
pub record ReadsCount (old new : Hand) : Type 0 where
  pub own : new.own ≡ old.own
  pub links : new.links ≡ old.links
  pub left : new.left ≡ old.left
  pub reads : reads_of old < reads_of new

-- the own deque is as it was
pub record SameDeque (old new : OwnDeque) : Type 0 where
  pub deque : worker_deque new.worker ≡ worker_deque old.worker
  pub view : worker_view new.worker ≡ worker_view old.worker
  pub room : new.room ≡ old.room

-- one id was taken from the own deque
pub record PopsOne (x : ℕ) (old new : OwnDeque) : Type 0 where
  pub deque : worker_deque new.worker ≡ worker_deque old.worker
  pub view : worker_view new.worker ≡ record (worker_view old.worker) { taken = (worker_view old.worker).taken ++ x ∷ [] }
  pub room : new.room ≡ old.room

-- nothing was taken
pub record TakesNothing (old new : Hand) : Type 0 where
  pub own : SameDeque old.own new.own
  pub links : AllAlike old.links.items new.links.items
  pub left : new.left ≡ old.left
  pub reads : reads_of old ≤ reads_of new

-- every deque was looked at, in vain
pub record LooksInVain (old new : Hand) : Type 0 where
  pub own : SameDeque old.own new.own
  pub links : AllLookedInVain old.links.items new.links.items 0 (length old.links.items)
  pub left : new.left ≡ old.left
  pub rest : new.at_rest ≡ old.at_rest
  pub reads : reads_of old ≤ reads_of new

-- one id was popped or stolen
pub record TakesOne (x : ℕ) (old new : Hand) : Type 0 where
  pub taken : (PopsOne x old.own new.own × (new.links ≡ old.links)) ⊎ (SameDeque old.own new.own × Steals old.links.items new.links.items x)
  pub left : new.left ≡ old.left

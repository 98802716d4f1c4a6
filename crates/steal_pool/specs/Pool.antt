-- The hands of one pool.
use Rattle.std.specs.Prelude.{◌≡◌, ℕ, ◌+◌, ◌<◌, ◌≤◌, false, All, List, [], length, map, replicate, slice_index_or}
use Rattle.std.specs.declared.alloc.Global.{Global}
use Rattle.atomic_blocks.specs.Lent.{RowsId}
use Rattle.crossbeam_deque.specs.Handles.{worker_deque, worker_view}
use Rattle.steal_pool.specs.declared.hand.Hand.{Hand}
use Rattle.steal_pool.specs.Account.{Account, Place, account_of, place_of, room_of, has_left}
use Rattle.steal_pool.specs.NewPool.{IsBare, LinkedHands}

-- the deque of a hand
abbrev pub own_of : Hand → RowsId × Global
own_of h = worker_deque h.own.worker

-- a place in the pool with these deques: a hand there steals from them all, and has what right to its own deque the links have not
pub record IsPlaceIn (deques : List (RowsId × Global)) (p : Place) : Type 0 where
  pub links : p.deques ≡ deques
  pub parts : p.parts + length deques ≡ 65
  pub joined : p.joined ≡ []

-- these are all hands of one pool, in their order
abbrev pub IsPool : List Hand → Type 0
IsPool hands = All (λ h. IsPlaceIn (map own_of hands) (place_of h)) hands

-- nothing was pushed or taken in a pool of n hands
abbrev pub new_account : ℕ → Account
new_account n = record { pushed = []; popped = []; stolen = replicate n [] }

-- a hand of a pool of n that has done nothing
pub record IsFresh (n : ℕ) (h : Hand) : Type 0 where
  pub account : account_of h ≡ new_account n
  pub stays : has_left h ≡ false
  pub room : 256 ≤ room_of h

-- all hands of a pool of n, which have done nothing
pub record IsNewPool (n : ℕ) (hands : List Hand) : Type 0 where
  pub count : length hands ≡ n
  pub pool : IsPool hands
  pub fresh : All (IsFresh n) hands

-- the same while links are handed out: each hand has a link to each, and the parts that are left
pub record AreLinked (n : ℕ) (hands : List Hand) : Type 0 where
  pub count : length hands ≡ n
  pub parts : (k : ℕ) (d : Hand) → k < n → (worker_view (slice_index_or hands k d).own.worker).parts + n ≡ 65
  pub bare : (k : ℕ) (d : Hand) → k < n → IsBare (slice_index_or hands k d)
  pub links : (j : ℕ) (c : Hand) → j < n → LinkedHands hands (slice_index_or hands j c).links.items

-- hands that stand where they stood
abbrev pub SamePlaces : List Hand → List Hand → Type 0
SamePlaces hands hands' = (length hands' ≡ length hands) × ((k : ℕ) (d : Hand) → k < length hands → place_of (slice_index_or hands' k d) ≡ place_of (slice_index_or hands k d))

-- hands that have not left
abbrev pub AllStay : List Hand → Type 0
AllStay hands = All (λ h. has_left h ≡ false) hands

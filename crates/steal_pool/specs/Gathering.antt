-- Hands that take in what the others took.
use Rattle.std.specs.Prelude.{◌≡◌, ◌≢◌, ℕ, ◌<◌, List, [], ◌∷◌, length, slice_index_or}
use Rattle.crossbeam_deque.specs.Handles.{view, worker_deque, worker_view, stealer_deque}
use Rattle.steal_pool.specs.declared.deque.Link.{Link}
use Rattle.steal_pool.specs.declared.hand.Hand.{Hand}
use Rattle.steal_pool.specs.declared.rule.DequeView.{DequeView}
use Rattle.steal_pool.specs.Law.{joined_view, DequeLaw, NoneLeft, TakesLeft}

-- the hand took in the link, and has its links as before
abbrev pub TakenIn : Hand → Link → Hand → Type 0
TakenIn h link h' = (worker_deque h'.own.worker ≡ worker_deque h.own.worker) × (worker_view h'.own.worker ≡ joined_view (worker_view h.own.worker) (view link.pass)) × (h'.links ≡ h.links)

-- link k of the row is to the deque of hand k
abbrev pub Fits : List Hand → List Link → Type 0
Fits hands row = (length row ≡ length hands) × ((k : ℕ) (d : Hand) (e : Link) → k < length row → stealer_deque (slice_index_or row k e).stealer ≡ worker_deque (slice_index_or hands k d).own.worker)

abbrev pub Absorbed : List Hand → List Link → List Hand → Type 0
Absorbed hands row hands' = (length hands' ≡ length hands) × ((k : ℕ) (d : Hand) (e : Link) → k < length row → TakenIn (slice_index_or hands k d) (slice_index_or row k e) (slice_index_or hands' k d))

-- link k of each hand is to the deque of hand k
abbrev pub AllFit : List Hand → Type 0
AllFit hands =
    ((j : ℕ) (c : Hand) → j < length hands → length (slice_index_or hands j c).links.items ≡ length hands)
    × ((j k : ℕ) (c d : Hand) (e : Link) → j < length hands → k < length hands → stealer_deque (slice_index_or (slice_index_or hands j c).links.items k e).stealer ≡ worker_deque (slice_index_or hands k d).own.worker)

-- a view that takes in others, one after the other
abbrev pub absorbed : DequeView → List DequeView → DequeView
absorbed v [] = v
absorbed v (w ∷ ws) = absorbed (joined_view v w) ws

-- what each hand knows of deque k
abbrev pub column : Link → ℕ → List Hand → List DequeView
column e k [] = []
column e k (h ∷ hs) = view (slice_index_or h.links.items k e).pass ∷ column e k hs

-- each owner has taken in what all hands know of its deque
abbrev pub AllAbsorbed : List Hand → List Hand → Type 0
AllAbsorbed hands hands' =
    (length hands' ≡ length hands)
    × ((k : ℕ) (d : Hand) (e : Link) → k < length hands → worker_view (slice_index_or hands' k d).own.worker ≡ absorbed (worker_view (slice_index_or hands k d).own.worker) (column e k hands))

-- the views are as they were, and the law of each deque holds
pub record IsLawful (h h' : Hand) : Type 0 where
  pub view : worker_view h'.own.worker ≡ worker_view h.own.worker
  pub law : (items : List ℕ) × (let v = worker_view h.own.worker in DequeLaw v.put v.taken v.joined items)

abbrev pub AreLawful : List Hand → List Hand → Type 0
AreLawful hands hands' = (length hands' ≡ length hands) × ((k : ℕ) (d : Hand) → k < length hands → IsLawful (slice_index_or hands k d) (slice_index_or hands' k d))

-- the view is as it was, and no id is left
pub record IsEmptied (h h' : Hand) : Type 0 where
  pub view : worker_view h'.own.worker ≡ worker_view h.own.worker
  pub none : NoneLeft (worker_view h.own.worker)

abbrev pub AllEmptied : List Hand → List Hand → Type 0
AllEmptied hands hands' = (length hands' ≡ length hands) × ((k : ℕ) (d : Hand) → k < length hands → IsEmptied (slice_index_or hands k d) (slice_index_or hands' k d))

-- one id is taken from one of the deques
pub record TakesLeftAt (x k : ℕ) (hands hands' : List Hand) : Type 0 where
  pub same : length hands' ≡ length hands
  pub inside : k < length hands
  pub here : (d : Hand) → TakesLeft (worker_view (slice_index_or hands k d).own.worker) (x ∷ []) (worker_view (slice_index_or hands' k d).own.worker)
  pub others : (j : ℕ) (d : Hand) → j < length hands → j ≢ k → worker_view (slice_index_or hands' j d).own.worker ≡ worker_view (slice_index_or hands j d).own.worker

abbrev pub TakesFirstLeft : ℕ → List Hand → List Hand → Type 0
TakesFirstLeft x hands hands' = (k : ℕ) × TakesLeftAt x k hands hands'

-- What one call does to the links of a hand.
use Rattle.std.specs.Prelude.{◌≡◌, ◌≢◌, ℕ, ◌<◌, ◌≤◌, Bool, true, List, [], ◌∷◌, ◌++◌, length, slice_index_or}
use Rattle.crossbeam_deque.specs.Handles.{view, stealer_deque}
use Rattle.steal_pool.specs.declared.deque.Link.{Link}

-- how often the link looked at its deque, and whether the last look found it empty
abbrev pub looks_in : Link → ℕ
looks_in l = l.notes.seat.me.0.looks

abbrev pub found_empty_in : Link → Bool
found_empty_in l = l.notes.seat.me.0.found_empty

-- nothing was taken, and maybe looked
abbrev pub Alike : Link → Link → Type 0
Alike l m = (stealer_deque m.stealer ≡ stealer_deque l.stealer) × (view m.pass ≡ view l.pass) × (looks_in l ≤ looks_in m)

abbrev pub AllAlike : List Link → List Link → Type 0
AllAlike ls ms = (length ms ≡ length ls) × ((j : ℕ) (d : Link) → j < length ls → Alike (slice_index_or ls j d) (slice_index_or ms j d))

-- the link looked, and its last look found the deque empty
abbrev pub LookedInVain : Link → Link → Type 0
LookedInVain l m = Alike l m × (looks_in l < looks_in m) × (found_empty_in m ≡ true)

-- the links from `from` on and below `to` looked in vain, and the others are as they were
pub record AllLookedInVain (ls ms : List Link) (from to : ℕ) : Type 0 where
  pub same : length ms ≡ length ls
  pub within : (j : ℕ) (d : Link) → from ≤ j → j < to → LookedInVain (slice_index_or ls j d) (slice_index_or ms j d)
  pub before : (j : ℕ) (d : Link) → j < from → slice_index_or ms j d ≡ slice_index_or ls j d
  pub behind : (j : ℕ) (d : Link) → to ≤ j → slice_index_or ms j d ≡ slice_index_or ls j d

-- the link took x
abbrev pub Took : ℕ → Link → Link → Type 0
Took x l m = (stealer_deque m.stealer ≡ stealer_deque l.stealer) × (view m.pass ≡ record (view l.pass) { taken = (view l.pass).taken ++ x ∷ [] })

-- link k took x, and the others took nothing
pub record StealsAt (ls ms : List Link) (k x : ℕ) : Type 0 where
  pub same : length ms ≡ length ls
  pub inside : k < length ls
  pub here : (d : Link) → Took x (slice_index_or ls k d) (slice_index_or ms k d)
  pub others : (j : ℕ) (d : Link) → j < length ls → j ≢ k → Alike (slice_index_or ls j d) (slice_index_or ms j d)

abbrev pub Steals : List Link → List Link → ℕ → Type 0
Steals ls ms x = (k : ℕ) × StealsAt ls ms k x

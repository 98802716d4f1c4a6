-- The rule of the lock.
use Rattle.std.specs.Prelude.{◌≡◌, ◌≢◌, ◌⊎◌, ℕ, ◌+◌, ◌-◌, ◌<◌, ◌≤◌, true, false, List, [], ◌∷◌, ◌++◌, length, slice_index, nat_lt, if◌then◌else◌, Option, Some, None}
use mathlib.Core.Option.{some}
use mathlib.Core.List.{IsPrefix}
use lib.ListN.{get_elem?}
use Rattle.atomic_table.specs.Table.{State}
use Rattle.book_lock.specs.declared.views.Entry.{Entry}
use Rattle.book_lock.specs.declared.views.JoinedSeat.{JoinedSeat}
use Rattle.book_lock.specs.declared.views.Stage.{Stage}
use Rattle.book_lock.specs.declared.views.Stage.TheVariants.{Idle, Turn}
use Rattle.book_lock.specs.declared.views.SeatView.{SeatView}
use Rattle.book_lock.specs.History.{calls_by, IsHistory}

abbrev pub total : {V : Type 0} → (V → ℕ) → List V → ℕ
total f [] = 0
total f (v ∷ vs) = f v + total f vs

module _ {O : Type 0} where
  abbrev pub IsTurn : Stage O → Type 0
  IsTurn (Turn b) = Unit {0}
  IsTurn Idle = ⊥

  -- what a stage says, where the object is `now`
  abbrev pub IsStageOf : O → Stage O → Type 0
  IsStageOf now Idle = Unit {0}
  IsStageOf now (Turn b) = b ≡ now

module _ {C R : Type 0} where
  -- n is the number of one that was taken in
  abbrev pub IsJoinedNumber : ℕ → List (JoinedSeat C R) → Type 0
  IsJoinedNumber n [] = ⊥
  IsJoinedNumber n (p ∷ ps) = (p.number ≡ n) ⊎ IsJoinedNumber n ps

module _ {O C R : Type 0} where
  abbrev pub parts_of : SeatView O C R → ℕ
  parts_of v = v.parts

  abbrev pub IsSpent : List (SeatView O C R) → ℕ → Type 0
  IsSpent views n = (v : SeatView O C R) → get_elem? views n ≡ some v → v.parts ≡ 0

  abbrev pub ArePairs : List (Entry C R) → List (SeatView O C R) → List (JoinedSeat C R) → Type 0
  ArePairs log views [] = Unit {0}
  ArePairs log views (p ∷ ps) = (p.number < length views) × (calls_by p.number log ≡ p.calls) × IsSpent views p.number × ArePairs log views ps

  -- what a seat in use has seen and done
  pub record IsAccount (first : O) (log : List (Entry C R)) (views : List (SeatView O C R)) (j : ℕ) (v : SeatView O C R) : Type 0 where
    pub origin : v.origin ≡ Some first
    pub seen : IsPrefix v.seen log
    pub beside : IsPrefix v.beside v.seen
    pub mine : calls_by j log ≡ v.mine
    pub pairs : ArePairs log views v.joined
    pub named : v.named ≡ true → v.number ≡ j
    pub unnamed : v.named ≡ false → v.number < j

  pub record IsViewAt (first : O) (log : List (Entry C R)) (now : O) (views : List (SeatView O C R)) (j : ℕ) (v : SeatView O C R) : Type 0 where
    pub used : IsTurn v.stage → 0 < v.parts
    pub stage : IsStageOf now v.stage
    pub fits : 0 < v.parts → IsAccount first log views j v

  -- the object is in the slot, or with one seat
  abbrev pub IsAtHome : O → State (Option O) (SeatView O C R) → Type 0
  IsAtHome now s = (x : Option O) × (get_elem? s.homes 0 ≡ some (some x)) × (x ≡ Some now) × ((j : ℕ) (v : SeatView O C R) → get_elem? s.views j ≡ some v → ¬ IsTurn v.stage)

  abbrev pub IsOut : List (SeatView O C R) → Type 0
  IsOut views = (j : ℕ) × (v : SeatView O C R) × (get_elem? views j ≡ some v) × IsTurn v.stage

  -- no seat has the turn, and the word says so
  abbrev pub IsFree : O → State (Option O) (SeatView O C R) → Type 0
  IsFree now s = (slice_index s.words 0 ≡ 0) × IsAtHome now s

  abbrev pub IsTaken : State (Option O) (SeatView O C R) → Type 0
  IsTaken s = (0 < slice_index s.words 0) × IsOut s.views

  -- some seat in use keeps the calls with this number
  abbrev pub HasKeeper : List (SeatView O C R) → ℕ → Type 0
  HasKeeper views n = (j : ℕ) × (v : SeatView O C R) × (get_elem? views j ≡ some v) × (0 < v.parts) × ((n ≡ j) ⊎ IsJoinedNumber n v.joined)

module _ {C R : Type 0} where
  abbrev pub longer : List (Entry C R) → List (Entry C R) → List (Entry C R)
  longer xs ys = if nat_lt (length xs) (length ys) then ys else xs

  abbrev pub shorter : List (Entry C R) → List (Entry C R) → List (Entry C R)
  shorter xs ys = if nat_lt (length xs) (length ys) then xs else ys

pub record LockInvariant {O C R : Type 0} (meets : O → C → Type 0) (steps : O → C → R → O → Type 0) (first : O) (all : ℕ) (s : State (Option O) (SeatView O C R)) : Type 0 where
  pub log : List (Entry C R)
  pub now : O
  pub legal : IsHistory meets steps first log now
  pub wide : length s.words ≡ 1
  pub deep : length s.homes ≡ 1
  pub shared : total parts_of s.views ≡ all
  pub each : (j : ℕ) (v : SeatView O C R) → get_elem? s.views j ≡ some v → IsViewAt first log now s.views j v
  pub apart : (j k : ℕ) (v w : SeatView O C R) → get_elem? s.views j ≡ some v → get_elem? s.views k ≡ some w → IsTurn v.stage → IsTurn w.stage → j ≡ k
  pub home : IsFree now s ⊎ IsTaken s
  pub keeper : (n : ℕ) → n < length s.views → HasKeeper s.views n
  pub nobody : (n : ℕ) → length s.views ≤ n → calls_by n log ≡ []

module _ {O C R : Type 0} where
  abbrev pub first_view : O → ℕ → SeatView O C R
  first_view first parts = record { stage = Idle; origin = Some first; named = true; number = 0; parts = parts; seen = []; mine = []; beside = []; joined = [] }

  -- no value of a view: a seat that was taken in
  abbrev pub spent_view : SeatView O C R
  spent_view = record { stage = Idle; origin = None; named = true; number = 0; parts = 0; seen = []; mine = []; beside = []; joined = [] }

  -- one part leaves
  abbrev pub left_view : SeatView O C R → SeatView O C R
  left_view v = record v { parts = v.parts - 1 }

  -- a seat with no calls and no number yet, which has seen as much
  abbrev pub new_view : SeatView O C R → SeatView O C R
  new_view v = record { stage = Idle; origin = v.origin; named = false; number = v.number; parts = 1; seen = v.seen; mine = []; beside = []; joined = [] }

  abbrev pub pair_of : SeatView O C R → JoinedSeat C R
  pair_of w = record { number = w.number; calls = w.mine }

  -- w is taken in
  abbrev pub joined_view : SeatView O C R → SeatView O C R → SeatView O C R
  joined_view v w = record v { parts = v.parts + w.parts; seen = longer v.seen w.seen; beside = shorter v.seen w.seen; joined = pair_of w ∷ w.joined ++ v.joined }

  -- so, once the two histories were matched
  abbrev pub matched_view : SeatView O C R → SeatView O C R → SeatView O C R
  matched_view v w = record (joined_view v w) { beside = [] }

module _ {C R : Type 0} where
  abbrev pub HaveCalls : List (Entry C R) → List (JoinedSeat C R) → Type 0
  HaveCalls log [] = Unit {0}
  HaveCalls log (p ∷ ps) = (calls_by p.number log ≡ p.calls) × HaveCalls log ps

-- the object at the end is what one legal history leaves, which begins with all that the seat had seen, and has its calls, those of the seats that it took in, and no others
pub record IsClosing {O C R : Type 0} (meets : O → C → Type 0) (steps : O → C → R → O → Type 0) (first : O) (v : SeatView O C R) (last : O) : Type 0 where
  pub log : List (Entry C R)
  pub legal : IsHistory meets steps first log last
  pub seen : IsPrefix v.seen log
  pub mine : calls_by v.number log ≡ v.mine
  pub joined : HaveCalls log v.joined
  pub no_others : (n : ℕ) → n ≢ v.number → ¬ IsJoinedNumber n v.joined → calls_by n log ≡ []

-- What each step tells.
use Rattle.std.specs.Prelude.{◌≡◌, ◌≢◌, ℕ, ◌<◌, true, List, [], ◌∷◌, ◌++◌, Option, Some}
use mathlib.Core.List.{IsPrefix}
use Rattle.atomic_table.specs.Table.{Me, Step, rest}
use Rattle.book_lock.specs.declared.views.Entry.{Entry}
use Rattle.book_lock.specs.declared.views.Stage.{Stage}
use Rattle.book_lock.specs.declared.views.Stage.TheVariants.{Idle, Turn}
use Rattle.book_lock.specs.declared.views.SeatView.{SeatView}
use Rattle.book_lock.specs.History.{entry, calls_by, IsHistory, IsLegal}

module _ {O C R : Type 0} where
  -- the seat has the slot, with this object in it
  abbrev pub IsInSlot : Me (Option O) (SeatView O C R) → O → Type 0
  IsInSlot m b = m.1 ≡ (0, Some b) ∷ []

  -- the seat has a number, which no call that it has seen has, and not that of the seat that it was split from
  pub record IsNumbered (v w : SeatView O C R) : Type 0 where
    pub rest : w ≡ record v { named = true; number = w.number }
    pub other : w.number ≢ v.number
    pub none_seen : calls_by w.number v.seen ≡ []

  abbrev pub number_step : Step (Option O) → Me (Option O) (SeatView O C R) → ℕ → Me (Option O) (SeatView O C R) → Type 0
  number_step st m n m' = IsNumbered m.0 m'.0 × (m'.1 ≡ m.1)

  abbrev pub match_step : Step (Option O) → Me (Option O) (SeatView O C R) → ℕ → Me (Option O) (SeatView O C R) → Type 0
  match_step st m n m' = (m' ≡ (record m.0 { beside = [] }, m.1)) × IsPrefix m.0.beside m.0.seen

module _ {O C R : Type 0} (meets : O → C → Type 0) (steps : O → C → R → O → Type 0) where
  -- the seat has the turn: it has the object, which some legal history left
  abbrev pub IsTurnOf : Me (Option O) (SeatView O C R) → Me (Option O) (SeatView O C R) → Type 0
  IsTurnOf m m' = (b : O) × (m' ≡ (record m.0 { stage = Turn b }, (0, Some b) ∷ m.1)) × ((first : O) → m.0.origin ≡ Some first → (log : List (Entry C R)) × IsHistory meets steps first log b)

  -- the seat has the turn where the word was 0, and else is as it was
  abbrev pub take_step : Step (Option O) → Me (Option O) (SeatView O C R) → ℕ → Me (Option O) (SeatView O C R) → Type 0
  take_step st m r m' = (r ≡ 0 → IsTurnOf m m') × (0 < r → m' ≡ m)

  -- the history that is seen after a call: legal, it begins with all that was seen, ends with the call, and has the seat's own calls and no others with its number
  pub record IsCallOf (v : SeatView O C R) (c : C) (r : R) (w : SeatView O C R) : Type 0 where
    pub legal : (first : O) → v.origin ≡ Some first → IsLegal meets steps first w.seen
    pub between : List (Entry C R)
    pub seen : w.seen ≡ (v.seen ++ between) ++ entry v.number c r ∷ []
    pub mine : w.mine ≡ v.mine ++ entry v.number c r ∷ []
    pub all_mine : calls_by v.number w.seen ≡ w.mine
    pub rest : w ≡ record v { stage = Idle; seen = w.seen; mine = w.mine }

  -- the seat has its turn with an object for which the call is allowed and has this reply, by which the object is this one
  abbrev pub MayAnswer : Stage O → C → R → O → Type 0
  MayAnswer st c r b' = (b : O) × (st ≡ Turn b) × meets b c × steps b c r b'

  -- the turn ended, with this call and its reply
  abbrev pub end_step : Option C → Option R → Step (Option O) → Me (Option O) (SeatView O C R) → ℕ → Me (Option O) (SeatView O C R) → Type 0
  end_step call reply st m n m' = (c : C) (r : R) → call ≡ Some c → reply ≡ Some r → IsCallOf m.0 c r m'.0 × (m'.1 ≡ rest m.1)

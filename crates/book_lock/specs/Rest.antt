-- Seats between two calls, and while one is on its way.
use Rattle.std.specs.Prelude.{◌≡◌, ◌<◌, true, [], ◌∷◌, Option, None}
use Rattle.atomic_table.specs.Table.{Me}
use Rattle.atomic_table.specs.declared.shared.Seat.{Seat}
use Rattle.book_lock.specs.declared.views.SeatView.{SeatView}
use Rattle.book_lock.specs.declared.views.Stage.TheVariants.{Idle}

module _ {O C R : Type 0} where
  -- it has no turn and no slot, at least one part, and a number
  abbrev pub IsAtRest : Me (Option O) (SeatView O C R) → Type 0
  IsAtRest m = (m.0.stage ≡ Idle) × (m.1 ≡ []) × (0 < m.0.parts) × (m.0.named ≡ true)

  -- it has the slot, from which the object was taken, and a number
  abbrev pub HasEmptySlot : Me (Option O) (SeatView O C R) → Type 0
  HasEmptySlot m = (m.1 ≡ (0, None) ∷ []) × (m.0.named ≡ true)

  -- the same seat of the same table
  abbrev pub IsSameSeat : Seat (Option O) (SeatView O C R) → Seat (Option O) (SeatView O C R) → Type 0
  IsSameSeat s s' = (s'.table_id ≡ s.table_id) × (s'.id ≡ s.id)

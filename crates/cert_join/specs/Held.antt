-- The fields of a place in a certificate.
use Rattle.std.specs.Prelude.{◌≢◌, ◌<◌, ◌≤◌, ℕ, drop, length, slice_index, IfSome}
use Rattle.cert_join.specs.declared.cursor.Cursor.TheInside.{Inside}
use Rattle.cert_join.specs.Spot.{Spot, IsLineSize}

abbrev pub spot_of : Inside → Spot
spot_of c = record { unread = drop c.at c.bytes.items; behind = c.behind; ended = c.ended; size = c.size }

pub record IsHeld (c : Inside) : Type 0 where
  pub within : c.searched ≤ length (drop c.at c.bytes.items)
  pub searched : (k : ℕ) → k < c.searched → slice_index (drop c.at c.bytes.items) k ≢ 10
  pub size : IfSome c.size (IsLineSize (drop c.at c.bytes.items) c.ended)

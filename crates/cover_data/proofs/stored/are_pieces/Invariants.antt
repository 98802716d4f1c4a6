use Rattle.std.proofs.Common.{◌≡◌, ℕ, ◌≤◌, map, take, length}
use Rattle.std.specs.Arc.{arc_value}
use Rattle.interval_model.specs.Space.{Space as AxisDomains}
use Rattle.ival.specs.SpaceViews.{space_of}
use Rattle.cover_data.specs.Stored.{joined}
use Rattle.cover_data.proofs.stored.are_pieces.Given as goal

-- the axes of the pieces so far are those of the space up to a place
pub record AreSame (pieces space : AxisDomains) (from : ℕ) : Type 0 where
  pub same : pieces ≡ take from space
  pub within : from ≤ length space

abbrev pub invariant-loop-piece : goal.invariant-loop-piece
invariant-loop-piece l = AreSame (joined (map arc_value (take l.piece-index l.pieces))) (space_of l.space) l.from

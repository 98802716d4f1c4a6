use Rattle.std.proofs.Common.{◌≡◌, map, take}
use Rattle.std.specs.Arc.{arc_value}
use Rattle.ival.specs.SpaceViews.{domain_of}
use Rattle.cover_data.specs.Stored.{joined}
use Rattle.cover_data.proofs.stored.whole.Given as goal

-- the axes of the pieces so far
abbrev pub invariant-loop-piece : goal.invariant-loop-piece
invariant-loop-piece l = map domain_of l.axes.items ≡ joined (map arc_value (take l.piece-index l.pieces))

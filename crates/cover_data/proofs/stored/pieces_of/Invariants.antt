use Rattle.std.proofs.Common.{◌≡◌, ◌*◌, map, take}
use Rattle.std.specs.Arc.{arc_value}
use Rattle.ival.specs.SpaceViews.{space_of}
use Rattle.cover_data.specs.Stored.{joined}
use Rattle.cover_data.proofs.stored.pieces_of.Given as goal

-- as many axes as the pieces so far have
abbrev pub invariant-loop-k : goal.invariant-loop-k
invariant-loop-k l = joined (map arc_value l.pieces.items) ≡ take (l.k * 16) (space_of l.space)

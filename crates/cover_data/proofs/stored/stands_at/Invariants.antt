use Rattle.std.proofs.Common.{◌≡◌, take, drop}
use Rattle.ival.specs.SpaceViews.{space_of}
use Rattle.cover_data.proofs.stored.stands_at.Given as goal

-- the axes so far are the same
abbrev pub invariant-loop-k : goal.invariant-loop-k
invariant-loop-k l = take l.k (drop l.from (space_of l.space)) ≡ take l.k (space_of l.piece)

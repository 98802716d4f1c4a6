use Rattle.std.proofs.Common.{◌≡◌, map, drop}
use Rattle.cover_line.specs.Views.{multipliers_of}
use Rattle.ival.specs.Views.{interval_of}
use Rattle.squares.specs.Pairs.{sum_of_ranges}
use Rattle.squares.proofs.pairs.sum_of_ranges.Given as goal

-- the pairs from this place on are added
abbrev pub invariant-loop-i : goal.invariant-loop-i
invariant-loop-i l = interval_of l.sum ≡ sum_of_ranges (multipliers_of (drop l.i l.multipliers)) (map interval_of (drop l.i l.ranges))

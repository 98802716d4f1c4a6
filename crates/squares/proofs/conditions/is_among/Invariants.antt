use Rattle.std.proofs.Common.{◌≡◌, map, drop}
use Rattle.cover_line.specs.Views.{axes_of}
use Rattle.square_model.specs.Block.{is_among}
use Rattle.squares.proofs.conditions.is_among.Given as goal

-- what holds of those that are left holds of all
abbrev pub invariant-loop-other : goal.invariant-loop-other
invariant-loop-other l = is_among l.monomial (map axes_of (drop l.other-index l.others)) ≡ is_among l.monomial (map axes_of l.others)

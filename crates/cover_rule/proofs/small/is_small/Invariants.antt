use Rattle.std.proofs.Common.{◌≡◌, drop}
use Rattle.cover_model.specs.Honest.{is_small}
use Rattle.ival.specs.SpaceViews.{space_of}
use Rattle.cover_rule.proofs.small.is_small.Given as goal

-- the axes that are left decide
abbrev pub invariant-loop-axis : goal.invariant-loop-axis
invariant-loop-axis l = is_small l.bits (space_of l.space) ≡ is_small l.bits (drop l.axis (space_of l.space))

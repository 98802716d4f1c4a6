use Rattle.std.proofs.Common.{◌≡◌, ℕ, map, take}
use Rattle.dyadic.specs.declared.dy.Dy.{Dy}
use Rattle.ival.specs.Views.{interval_of}
use Rattle.combine.specs.Hands.{range_by_mark}
use Rattle.cover_rule.proofs.squaring.ranges_of.Given as goal

-- those before are there
abbrev pub invariant-loop-pair : goal.invariant-loop-pair
invariant-loop-pair l = map interval_of l.ranges.items ≡ map (λ (x : ℕ × Dy). range_by_mark l.combination x.0) (take l.pair-index l.multipliers)

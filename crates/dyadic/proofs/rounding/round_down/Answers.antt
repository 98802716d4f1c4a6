use Rattle.dyadic.proofs.Ranges.{in_range_low}
use Rattle.dyadic.proofs.Nearest.{rounded_down, rounded_down_top, rounded_down_same}
use Rattle.std.proofs.Common.{rules, arith}
use Rattle.dyadic.proofs.rounding.round_down.Goals as goal

pub returns-then-shift-le180 : goal.returns-then-shift-le180
returns-then-shift-le180 c = search rules

pub returns : goal.returns
returns c = grind (arith, rounded_down, rounded_down_top, rounded_down_same, in_range_low)

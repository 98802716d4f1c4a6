use Rattle.dyadic.proofs.Ranges.{in_range_low, in_range_iff, in_range_high, in_range_test}
use Rattle.std.proofs.Common.{arith}
use Rattle.dyadic.proofs.rounding.is_in_range.Goals as goal

pub returns-then-shift-le180 : goal.returns-then-shift-le180
returns-then-shift-le180 c = grind (arith, in_range_low, in_range_iff, in_range_high, in_range_test)

pub returns-then-shift-le242 : goal.returns-then-shift-le242
returns-then-shift-le242 c = grind (arith, in_range_low, in_range_iff, in_range_high, in_range_test)

pub returns-else-shift-le242 : goal.returns-else-shift-le242
returns-else-shift-le242 c = grind (arith, in_range_low, in_range_iff, in_range_high, in_range_test)

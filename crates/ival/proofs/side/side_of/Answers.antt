use Rattle.std.proofs.Common.{sym, ◌∙◌}
use Rattle.dyadic.specs.Rounding.{end_of}
use Rattle.dyadic.specs.Views.{ext_of}
use Rattle.ival.proofs.Sides.{high_from, low_from, low_from_below, high_from_above}
use Rattle.ival.proofs.side.side_of.Goals as goal

pub returns-then-not-is_below : goal.returns-then-not-is_below
returns-then-not-is_below c = high_from (end_of (ext_of c.args.ends.low)) (sym c.is_below.ensures ∙ c.if-not-is_below.true)

pub returns-then-not-is_above : goal.returns-then-not-is_above
returns-then-not-is_above c = low_from (end_of (ext_of c.args.ends.high)) (sym c.is_above.ensures ∙ c.if-not-is_above.true)

pub returns-else-not-is_above : goal.returns-else-not-is_above
returns-else-not-is_above c = (
  low_from_below (end_of (ext_of c.args.ends.low)) (sym c.is_below.ensures ∙ c.if-not-is_below.false),
  high_from_above (end_of (ext_of c.args.ends.high)) (sym c.is_above.ensures ∙ c.if-not-is_above.false),
)

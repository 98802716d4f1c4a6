-- Ends of which the lower one is not above the upper one, and neither is the infinity of the other side.
use Rattle.std.specs.Prelude.{Bool, true, false, ◌&&◌}
use Rattle.dyadic.specs.Rounding.{Ext, below_all, above_all, ext_at_most}

abbrev pub is_low : Ext → Bool
is_low above_all = false
is_low e = true

abbrev pub is_high : Ext → Bool
is_high below_all = false
is_high e = true

abbrev pub are_ends : Ext → Ext → Bool
are_ends l h = ext_at_most l h && (is_low l && is_high h)

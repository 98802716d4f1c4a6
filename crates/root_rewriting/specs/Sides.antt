-- Sides of a range, and which ends may stand there.
use Rattle.std.specs.Prelude.{Bool, true, Option, Some, None}
use Rattle.dyadic.specs.Rounding.{Ext as KeptEnd}
use Rattle.dyadic.specs.Views.{ext_of}
use Rattle.dyadic.specs.declared.dy.Ext.{Ext}
use Rattle.ival.specs.Proper.{is_high, is_low}
use Rattle.script_model.specs.Declared as model
use Rattle.script_model.specs.Declared.{lower, upper}
use Rattle.root_rewriting.specs.declared.range.side.Side.{Side}
use Rattle.root_rewriting.specs.declared.range.side.Side.TheVariants.{Lower, Upper}

abbrev pub side_of : Side → model.Side
side_of Lower = lower
side_of Upper = upper

-- not the infinity of the other side
abbrev pub is_outward : model.Side → KeptEnd → Bool
is_outward lower e = is_low e
is_outward upper e = is_high e

abbrev pub is_outward_or_none : model.Side → Option Ext → Bool
is_outward_or_none s None = true
is_outward_or_none s (Some e) = is_outward s (ext_of e)

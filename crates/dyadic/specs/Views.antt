-- What the types of the code stand for.
use Rattle.std.specs.Prelude.{◌^◌, ℤ, pos, ◌*ℤ◌}
use Rattle.std.specs.Int.RustNames.{unsigned_abs}
use Rattle.dyadic.specs.declared.dy.Dy.{Dy}
use Rattle.dyadic.specs.declared.dy.Ext.{Ext}
use Rattle.dyadic.specs.declared.dy.Ext.TheVariants.{NegInf, Fin, PosInf}
use Rattle.dyadic.specs.declared.frac.Frac.{Frac}
use Rattle.dyadic.specs.Fraction.{Fraction}
use Rattle.dyadic.specs.Rounding.{Dyadic, Ext as KeptEnd, below_all, finite, above_all}
use Rattle.dyadic.specs.declared.normal.Normal.{Normal}
use Rattle.dyadic.specs.declared.parts.Parts.{Parts}
use Rattle.dyadic.specs.Mantissa.{mantissa}
use Rattle.dyadic.specs.Size.{units}
use Rattle.dyadic.specs.Signed.{signed_of}

-- how many units of 2^-120 a number is
abbrev pub units_of : Dy → ℤ
units_of a = mantissa a.high a.low *ℤ pos (2 ^ a.shift)

abbrev pub dyadic_of : Dy → Dyadic
dyadic_of a = record { units = units_of a }

-- the same of a number by its sign and its size
abbrev pub parts_units : Parts → ℤ
parts_units a = signed_of a.negative (units a.size)

abbrev pub parts_dyadic : Parts → Dyadic
parts_dyadic a = record { units = parts_units a }

-- the same of a number with its mantissa put together
abbrev pub normal_units : Normal → ℤ
normal_units a = a.mantissa *ℤ pos (2 ^ a.shift)

abbrev pub ext_of : Ext → KeptEnd
ext_of NegInf = below_all
ext_of (Fin a) = finite (dyadic_of a)
ext_of PosInf = above_all

abbrev pub fraction_of_frac : Frac → Fraction
fraction_of_frac f = record { num = f.n; den = unsigned_abs f.d }

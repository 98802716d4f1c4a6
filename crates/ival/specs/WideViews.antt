-- A whole number of units in two halves, and the side that has so many units.
use Rattle.std.specs.Prelude.{ℕ, ◌+◌, ◌*◌, ◌^◌, pos}
use Rattle.ival.specs.declared.wide_parts.Wide.{Wide}
use Rattle.dyadic.specs.Fraction.{Fraction}

abbrev pub wide_value : Wide → ℕ
wide_value w = w.high * 2 ^ 120 + w.low

abbrev pub side_of_units : ℕ → Fraction
side_of_units n = record { num = pos (n * 2 ^ 120); den = 2 ^ 120 * 2 ^ 120 }

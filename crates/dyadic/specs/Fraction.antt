-- Fractions of unbounded whole numbers, compared and computed by cross-multiplication.
use Rattle.std.specs.Prelude.{ℕ, suc, zero, ◌*◌, ◌^◌, ◌<◌, ℤ, pos, negsuc, ◌+ℤ◌, ◌*ℤ◌, neg_ℤ, Bool}
use lib.Signed.{le_z}

-- a whole number over another; IsFraction says that the other is at least 1
pub record Fraction : Type 0 where
  pub num : ℤ
  pub den : ℕ

-- what is asked of a coordinate of a point, and what every operation below keeps
abbrev pub IsFraction : Fraction → Type 0
IsFraction q = 0 < q.den

abbrev pub whole : ℤ → Fraction
whole n = record { num = n; den = 1 }

abbrev pub zero_fraction : Fraction
zero_fraction = whole (pos 0)

-- 2 to the power of minus k
abbrev pub power_below : ℕ → Fraction
power_below k = record { num = pos 1; den = 2 ^ k }

unfoldable pub negated : Fraction → Fraction
negated a = record { num = neg_ℤ a.num; den = a.den }

unfoldable pub sum_of : Fraction → Fraction → Fraction
sum_of a b = record { num = (a.num *ℤ pos b.den) +ℤ (b.num *ℤ pos a.den); den = a.den * b.den }

abbrev pub difference_of : Fraction → Fraction → Fraction
difference_of a b = sum_of a (negated b)

unfoldable pub product_of : Fraction → Fraction → Fraction
product_of a b = record { num = a.num *ℤ b.num; den = a.den * b.den }

-- a fraction divided by a numerator over a denominator: division by 0 is 0
abbrev pub over : Fraction → ℤ → ℕ → Fraction
over a (pos zero) d = zero_fraction
over a (pos (suc n)) d = record { num = a.num *ℤ pos d; den = a.den * suc n }
over a (negsuc n) d = record { num = neg_ℤ (a.num *ℤ pos d); den = a.den * suc n }

unfoldable pub quotient_of : Fraction → Fraction → Fraction
quotient_of a b = over a b.num b.den

-- a is at most b
unfoldable pub at_most : Fraction → Fraction → Bool
at_most a b = le_z (a.num *ℤ pos b.den) (b.num *ℤ pos a.den)

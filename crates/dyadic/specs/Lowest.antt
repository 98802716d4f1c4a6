-- Fractions in lowest terms, and when a step keeps its numbers within 10^36.
use Rattle.std.specs.Prelude.{ℕ, zero, suc, ◌*◌, ◌/◌, ◌%◌, ◌^◌, ◌≤◌, Bool, ◌&&◌, nat_le, ℤ, pos, ◌*ℤ◌, ◌+ℤ◌, ◌<ℤ◌, nat_abs}
use Rattle.std.specs.Int.{IsGcd}
use lib.Signed.{quot_z}
use Rattle.dyadic.specs.Fraction.{Fraction}

-- the greatest common divisor, in at most so many steps of Euclid's algorithm
abbrev pub gcd_within : ℕ → ℕ → ℕ → ℕ
gcd_within zero a b = a
gcd_within (suc most) a zero = a
gcd_within (suc most) a (suc b) = gcd_within most (suc b) (a % suc b)

abbrev pub gcd : ℕ → ℕ → ℕ
gcd a b = gcd_within (suc b) a b

abbrev pub divided : Fraction → ℕ → Fraction
divided q g = record { num = quot_z q.num (pos g); den = q.den / g }

-- the fraction in lowest terms
abbrev pub reduced : Fraction → Fraction
reduced q = divided q (gcd (nat_abs q.num) q.den)

abbrev pub fits : ℕ → Bool
fits n = nat_le n (10 ^ 36)

-- whether no number of the step from two fractions to their sum, product or quotient exceeds 10^36 in size
abbrev pub sum_fits : Fraction → Fraction → Bool
sum_fits p q = fits (nat_abs (p.num *ℤ pos q.den)) && fits (nat_abs (q.num *ℤ pos p.den)) &&
    fits (nat_abs ((p.num *ℤ pos q.den) +ℤ (q.num *ℤ pos p.den))) && fits (p.den * q.den)

abbrev pub product_fits : Fraction → Fraction → Bool
product_fits p q = fits (nat_abs (p.num *ℤ q.num)) && fits (p.den * q.den)

abbrev pub quotient_fits : Fraction → Fraction → Bool
quotient_fits p q = fits (nat_abs (p.num *ℤ pos q.den)) && fits (p.den * nat_abs q.num)

-- n / d is in lowest terms, with d positive and both at most 10^36 in size
pub record IsLowest (n d : ℤ) : Type 0 where
  pub positive : pos 0 <ℤ d
  pub few_digits : nat_abs n ≤ 10 ^ 36
  pub few_digits_below : nat_abs d ≤ 10 ^ 36
  pub in_lowest_terms : IsGcd (nat_abs n) (nat_abs d) 1

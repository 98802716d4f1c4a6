-- Real numbers as sequences of fractions (Bishop, Foundations of Constructive Analysis, 1967, chapter 2).
use Rattle.std.specs.Prelude.{ℕ, suc, pos, IsTrue}
use Rattle.dyadic.specs.Fraction.{Fraction, IsFraction, at_most, sum_of, difference_of}

-- 1 over n + 1
abbrev pub part : ℕ → Fraction
part n = record { num = pos 1; den = suc n }

-- the distance of a and b is at most d
abbrev pub IsWithin : Fraction → Fraction → Fraction → Type 0
IsWithin d a b = IsTrue (at_most (difference_of a b) d) × IsTrue (at_most (difference_of b a) d)

-- fractions, counted from 0
abbrev pub Sequence : Type 0
Sequence = ℕ → Fraction

-- a real number: the distance of x m and x n is at most 1/(m + 1) + 1/(n + 1)
pub record IsReal (x : Sequence) : Type 0 where
  pub fractions : (n : ℕ) → IsFraction (x n)
  pub regular : (m n : ℕ) → IsWithin (sum_of (part m) (part n)) (x m) (x n)

-- x and y are the same real number: the distance of x n and y n is at most 2/(n + 1)
abbrev pub AreEqual : Sequence → Sequence → Type 0
AreEqual x y = (n : ℕ) → IsWithin (sum_of (part n) (part n)) (x n) (y n)

-- The numbers that a polynomial encloses at a point.
use Rattle.std.specs.Prelude.{ℕ, List, [], ◌∷◌, pos, IsTrue}
use Rattle.dyadic.specs.Fraction.{Fraction, IsFraction, whole, zero_fraction, at_most, sum_of, difference_of, product_of}
use Rattle.dyadic.specs.Point.{Sort, real_sort, Coordinate}
use Rattle.interval_model.specs.Interval.{holds_fraction}
use Rattle.poly_graph.specs.Term.{coordinate}
use Rattle.poly_graph.specs.Problem.{HasSort}
use Rattle.square_model.specs.Polynomial.{Monomial, Polynomial}

-- by how much the point's axes differ from the centre's
abbrev pub apart : List Coordinate → List Coordinate → ℕ → Fraction
apart point centre axis = difference_of (coordinate point axis) (coordinate centre axis)

-- the product of its axes
abbrev pub monomial_value : (ℕ → Fraction) → Monomial → Fraction
monomial_value d [] = whole (pos 1)
monomial_value d (i ∷ m) = product_of (d i) (monomial_value d m)

-- all axes are Real
abbrev pub AreReal : List Sort → Monomial → Type 0
AreReal sorts [] = Unit {0}
AreReal sorts (i ∷ m) = HasSort real_sort sorts i × AreReal sorts m

-- a number in each coefficient, and the axes are Real
abbrev pub AreIn : List Sort → Polynomial → List Fraction → Type 0
AreIn sorts [] [] = Unit {0}
AreIn sorts ((m, i) ∷ p) (a ∷ rest) = AreReal sorts m × IsFraction a × IsTrue (holds_fraction i a) × AreIn sorts p rest
AreIn sorts _ _ = ⊥

-- the sum of the monomials, each times its number
abbrev pub value_with : (ℕ → Fraction) → Polynomial → List Fraction → Fraction
value_with d ((m, i) ∷ p) (a ∷ rest) = sum_of (product_of a (monomial_value d m)) (value_with d p rest)
value_with d _ _ = zero_fraction

abbrev pub IsSame : Fraction → Fraction → Type 0
IsSame v w = IsTrue (at_most v w) × IsTrue (at_most w v)

-- v is the polynomial's value, with some numbers in its coefficients, where the axes differ from the centre's by d
pub record Encloses (sorts : List Sort) (d : ℕ → Fraction) (p : Polynomial) (v : Fraction) : Type 0 where
  pub numbers : List Fraction
  pub are_in : AreIn sorts p numbers
  pub value : IsSame (value_with d p numbers) v

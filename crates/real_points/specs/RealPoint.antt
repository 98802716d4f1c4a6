-- Real points: a real number for each Real constant, and a truth value for each Bool constant.
use Rattle.std.specs.Prelude.{ℕ, suc, ◌≡◌, ◌≤◌, List, [], ◌∷◌, map, Bool, Option}
use Rattle.dyadic.specs.Fraction.{Fraction, sum_of, difference_of}
use Rattle.dyadic.specs.Point.{Sort, real_sort, bool_sort, Coordinate, at_fraction, at_bool}
use Rattle.script_model.specs.Script.{Command, Satisfies, sorts_of}
use Rattle.script_model.specs.Declared.{DeclaredInterval, declared_interval, IfBelow, IfAbove}
use Rattle.real_points.specs.Real.{Sequence, IsReal, AreEqual, part}

pub data RealCoordinate : Type 0 where
  at_real : Sequence → RealCoordinate
  at_truth : Bool → RealCoordinate

-- a coordinate of its sort for each constant
abbrev pub IsRealPoint : List Sort → List RealCoordinate → Type 0
IsRealPoint [] [] = Unit {0}
IsRealPoint (real_sort ∷ sorts) (at_real x ∷ point) = IsReal x × IsRealPoint sorts point
IsRealPoint (bool_sort ∷ sorts) (at_truth b ∷ point) = IsRealPoint sorts point
IsRealPoint _ _ = ⊥

-- the same real numbers and the same truth values
abbrev pub IsSamePoint : List RealCoordinate → List RealCoordinate → Type 0
IsSamePoint [] [] = Unit {0}
IsSamePoint (at_real x ∷ xs) (at_real y ∷ ys) = AreEqual x y × IsSamePoint xs ys
IsSamePoint (at_truth b ∷ xs) (at_truth c ∷ ys) = (b ≡ c) × IsSamePoint xs ys
IsSamePoint _ _ = ⊥

-- ---- the declared box

-- x is a real number, not below the lower end and not above the upper one: no fraction of x is farther outside than its
-- distance from x may be
abbrev pub LiesBetween : DeclaredInterval → Sequence → Type 0
LiesBetween i x = IsReal x × ((n : ℕ) → IfBelow i.low (sum_of (x n) (part n))) × ((n : ℕ) → IfAbove i.high (difference_of (x n) (part n)))

-- from this axis on: each coordinate is of its sort, and a Real one lies in its declared interval
abbrev pub IsInBox : (ℕ → DeclaredInterval) → ℕ → List Sort → List RealCoordinate → Type 0
IsInBox box axis [] [] = Unit {0}
IsInBox box axis (real_sort ∷ sorts) (at_real x ∷ point) = LiesBetween (box axis) x × IsInBox box (suc axis) sorts point
IsInBox box axis (bool_sort ∷ sorts) (at_truth b ∷ point) = IsInBox box (suc axis) sorts point
IsInBox box axis _ _ = ⊥

-- the real point is one of the script's declared box
abbrev pub IsInDeclaredBox : Option ℕ → List Command → List RealCoordinate → Type 0
IsInDeclaredBox bound script point = IsInBox (declared_interval bound script) 0 (sorts_of script) point

-- ---- what a script says of a real point

abbrev pub nth_coordinate : ℕ → RealCoordinate → Coordinate
nth_coordinate n (at_real x) = at_fraction (x n)
nth_coordinate n (at_truth b) = at_bool b

-- the n-th fractions of a real point
abbrev pub nth_point : ℕ → List RealCoordinate → List Coordinate
nth_point n point = map (nth_coordinate n) point

-- The real point satisfies the script, each atom loosened by m: for every k, its n-th fractions satisfy the script loosened
-- by m + 1/(k + 1), for all n from some N on. Both a comparison and its negation are closed, so this is their truth at
-- the limit.
abbrev pub SatisfiesAtReal : Fraction → List RealCoordinate → List Command → Type 0
SatisfiesAtReal m point script = (k : ℕ) → (N : ℕ) × ((n : ℕ) → N ≤ n → Satisfies (sum_of m (part k)) (nth_point n point) script)

-- a rational point as a real one, given by the same fraction again and again
abbrev pub as_real : Coordinate → RealCoordinate
as_real (at_fraction q) = at_real (λ n. q)
as_real (at_bool b) = at_truth b

-- Points: one coordinate for each declared constant.
use Rattle.std.specs.Prelude.{List, [], ◌∷◌, Bool}
use Rattle.dyadic.specs.Fraction.{Fraction, IsFraction}

pub data Sort : Type 0 where
  real_sort bool_sort : Sort

pub data Coordinate : Type 0 where
  at_fraction : Fraction → Coordinate
  at_bool : Bool → Coordinate

-- a coordinate of its sort for each constant, the Real ones fractions
abbrev pub IsPoint : List Sort → List Coordinate → Type 0
IsPoint [] [] = Unit {0}
IsPoint (real_sort ∷ sorts) (at_fraction q ∷ point) = IsFraction q × IsPoint sorts point
IsPoint (bool_sort ∷ sorts) (at_bool b ∷ point) = IsPoint sorts point
IsPoint _ _ = ⊥

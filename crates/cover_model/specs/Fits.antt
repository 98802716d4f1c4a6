-- Spaces and states of a problem, spaces of one point, and points near the declared box.
use Rattle.std.specs.Prelude.{◌≡◌, List, [], ◌∷◌, length, Bool, true, false, ◌&&◌, ◌||◌, IsTrue}
use Rattle.dyadic.specs.Fraction.{Fraction, at_most, sum_of, difference_of}
use Rattle.dyadic.specs.Point.{Coordinate, at_fraction, at_bool}
use Rattle.dyadic.specs.Rounding.{exact}
use Rattle.interval_model.specs.Space.{Domain, real_domain, bool_domain, Space}
use Rattle.poly_graph.specs.Problem.{Declared, real_between, any_bool, Axis, Problem}
use Rattle.cover_model.specs.State.{State, Loosenings, delta_of, sure}

-- the domain is one of such an axis, and not empty
abbrev pub FitsAxis : Declared → Domain → Type 0
FitsAxis (real_between lo hi) (real_domain l h) = IsTrue (at_most (exact l) (exact h))
FitsAxis any_bool (bool_domain f t) = IsTrue (f || t)
FitsAxis a d = ⊥

abbrev pub FitsAxes : List Axis → Space → Type 0
FitsAxes [] [] = Unit {0}
FitsAxes (a ∷ axes) (d ∷ space) = FitsAxis a.declared d × FitsAxes axes space
FitsAxes _ _ = ⊥

-- a state of the problem: a domain for each axis, none of them empty, and a mark for each atom
pub record FitsProblem (p : Problem) (S : State) : Type 0 where
  pub axes : FitsAxes p.axes S.space
  pub marks : length S.marks ≡ length p.atoms

-- ---- spaces of one point

-- one value is left on the axis
abbrev pub IsSingle : Declared → Domain → Type 0
IsSingle (real_between lo hi) (real_domain l h) = l ≡ h
IsSingle any_bool (bool_domain true false) = Unit {0}
IsSingle any_bool (bool_domain false true) = Unit {0}
IsSingle a d = ⊥

abbrev pub AreSingle : List Axis → Space → Type 0
AreSingle [] [] = Unit {0}
AreSingle (a ∷ axes) (d ∷ space) = IsSingle a.declared d × AreSingle axes space
AreSingle _ _ = ⊥

-- the coordinate of an axis with one value left
abbrev pub coordinate_of : Domain → Coordinate
coordinate_of (real_domain l h) = at_fraction (exact l)
coordinate_of (bool_domain f t) = at_bool t

abbrev pub coordinates : Space → List Coordinate
coordinates [] = []
coordinates (d ∷ space) = coordinate_of d ∷ coordinates space

-- ---- near the declared box

-- the coordinate lies within d of the declared bounds
abbrev pub is_near : Fraction → Declared → Coordinate → Bool
is_near d (real_between l h) (at_fraction q) = at_most (difference_of l d) q && at_most q (sum_of h d)
is_near d any_bool (at_bool b) = true
is_near d _ _ = false

abbrev pub are_near : Fraction → List Axis → List Coordinate → Bool
are_near d [] [] = true
are_near d (a ∷ axes) (c ∷ point) = is_near d a.declared c && are_near d axes point
are_near d _ _ = false

-- a space of one point, over which the form is sure at delta, and which lies within delta of the declared box
pub record IsShownAt (p : Problem) (s : Loosenings) (space : Space) : Type 0 where
  pub single : AreSingle p.axes space
  pub surely : IsTrue (sure p s space)
  pub near : IsTrue (are_near (exact (delta_of s)) p.axes (coordinates space))

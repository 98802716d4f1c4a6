-- Points that lie within some distance of a script's declared box.
use Rattle.std.specs.Prelude.{ℕ, suc, List, [], ◌∷◌, Option, Some, None, IsTrue}
use Rattle.dyadic.specs.Fraction.{Fraction, IsFraction, at_most, sum_of, difference_of}
use Rattle.dyadic.specs.Point.{Sort, real_sort, bool_sort, Coordinate, at_fraction, at_bool}
use Rattle.script_model.specs.Script.{Command, sorts_of}
use Rattle.script_model.specs.Declared.{DeclaredInterval, declared_interval}

-- the end is there, and v is at most d below it
abbrev pub IfNotFarBelow : Fraction → Option Fraction → Fraction → Type 0
IfNotFarBelow d None v = ⊥
IfNotFarBelow d (Some l) v = IsTrue (at_most (difference_of l d) v)

-- the end is there, and v is at most d above it
abbrev pub IfNotFarAbove : Fraction → Option Fraction → Fraction → Type 0
IfNotFarAbove d None v = ⊥
IfNotFarAbove d (Some h) v = IsTrue (at_most v (sum_of h d))

-- the coordinate is of this sort, and a Real one lies within d of the interval
abbrev pub IsNearDeclared : Fraction → DeclaredInterval → Sort → Coordinate → Type 0
IsNearDeclared d i real_sort (at_fraction q) = IsFraction q × IfNotFarBelow d i.low q × IfNotFarAbove d i.high q
IsNearDeclared d i bool_sort (at_bool b) = Unit {0}
IsNearDeclared d i _ _ = ⊥

-- from this axis on
abbrev pub IsNearBox : Fraction → (ℕ → DeclaredInterval) → ℕ → List Sort → List Coordinate → Type 0
IsNearBox d box axis [] [] = Unit {0}
IsNearBox d box axis (s ∷ sorts) (c ∷ point) = IsNearDeclared d (box axis) s c × IsNearBox d box (suc axis) sorts point
IsNearBox d box axis _ _ = ⊥

-- each Real coordinate lies within d of its declared interval
abbrev pub IsNearDeclaredBox : Fraction → Option ℕ → List Command → List Coordinate → Type 0
IsNearDeclaredBox d bound script point = IsNearBox d (declared_interval bound script) 0 (sorts_of script) point

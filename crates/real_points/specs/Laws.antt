-- What is said of real points.
use Rattle.std.specs.Prelude.{◌≡◌, ◌↔◌, ℕ, ◌≤◌, List, [], map, Bool, Option, Some, None, not, IsTrue}
use Rattle.dyadic.specs.Fraction.{Fraction, IsFraction, zero_fraction, at_most, sum_of}
use Rattle.dyadic.specs.Point.{Coordinate, IsPoint}
use Rattle.dyadic.specs.Rounding.{Dyadic, at, end_of, end_at_most, exact}
use Rattle.script_model.specs.Script.{Command, Satisfies, goal_value, sorts_of}
use Rattle.script_model.specs.Declared.{InDeclaredBox}
use Rattle.script_forms.specs.Atoms.{goal_atom, unfolding_fault}
use Rattle.script_forms.specs.ProblemOf.{IsProblemOf}
use Rattle.poly_graph.specs.Problem.{Problem, IsProblem}
use Rattle.cover_model.specs.State.{Loosenings, margin_of}
use Rattle.cert_model.specs.Due.{left_open}
use Rattle.cert_model.specs.Accepted.{IsAccepted}
use Rattle.cert_model.specs.Least.{Least, least, lower_end, IsGoalAccepted}
use Rattle.headline.specs.Laws.{HasNoPoint}
use Rattle.headline.specs.Least.{HasLowerBound}
use Rattle.real_points.specs.Real.{part}
use Rattle.real_points.specs.RealPoint.{RealCoordinate, IsRealPoint, IsSamePoint, IsInDeclaredBox, SatisfiesAtReal, as_real, nth_point}
use Rattle.real_points.specs.RealMeaning.{SatisfiesBy, SatisfiesOverReals, LooselyRelated, LooselyUnrelated}

-- Whether a real point satisfies a script, each atom loosened by m, does not depend on the fractions that give the point.
abbrev pub TruthIsOfThePoint : Type 0
TruthIsOfThePoint = (script : List Command) → unfolding_fault script ≡ None → (m : Fraction) → IsFraction m → (x y : List RealCoordinate) →
    IsRealPoint (sorts_of script) x → IsRealPoint (sorts_of script) y → IsSamePoint x y → SatisfiesAtReal m x script → SatisfiesAtReal m y script

-- A rational point satisfies a script loosened by m as a real point exactly where it does as a rational one.
abbrev pub RationalIsReal : Type 0
RationalIsReal = (script : List Command) → unfolding_fault script ≡ None → (m : Fraction) → IsFraction m → (point : List Coordinate) → IsPoint (sorts_of script) point →
    SatisfiesAtReal m (map as_real point) script ↔ Satisfies m point script

-- And it lies in the declared box as a real point exactly where it does as a rational one.
abbrev pub RationalBoxIsReal : Type 0
RationalBoxIsReal = (bound : Option ℕ) (script : List Command) (point : List Coordinate) → IsInDeclaredBox bound script (map as_real point) ↔ InDeclaredBox bound script point

-- no real point of the declared box satisfies the script, each atom loosened by m
abbrev pub HasNoRealPoint : Option ℕ → List Command → Fraction → Type 0
HasNoRealPoint bound script m = (point : List RealCoordinate) → IsInDeclaredBox bound script point → SatisfiesAtReal m point script → ⊥

-- a < b
abbrev pub IsBelow : Fraction → Fraction → Type 0
IsBelow a b = IsTrue (not (at_most b a))

-- Where no rational point of the declared box satisfies the script loosened by a margin, no real point of it satisfies the
-- script loosened by any number below the margin.
abbrev pub RationalPointsSuffice : Type 0
RationalPointsSuffice = (bound : Option ℕ) (script : List Command) → unfolding_fault script ≡ None → (margin m : Fraction) → IsFraction margin → IsFraction m → IsBelow m margin →
    HasNoPoint bound script margin → HasNoRealPoint bound script m

-- Whoever made the bytes: where they are accepted, for a problem of the script, as a cover that leaves nothing, no real
-- point of the script's declared box satisfies it, each atom loosened by any number below the margin of the header.
abbrev pub UnsatIsOfReals : Type 0
UnsatIsOfReals = (bound : Option ℕ) (script : List Command) (p : Problem) → IsProblem p → IsProblemOf bound script p → (bytes : List ℕ) (s : Loosenings) →
    IsAccepted p bound bytes s (left_open []) → (m : Fraction) → IsFraction m → IsBelow m (exact (margin_of s)) → HasNoRealPoint bound script m

-- The goal's value at the real point is not below this: for every k, at its n-th fractions the goal has a value that is at least
-- this less 1/(k + 1), for all n from some N on.
abbrev pub IsGoalAtLeast : List Command → List RealCoordinate → Option Dyadic → Type 0
IsGoalAtLeast script point lower =
    (k : ℕ) → (N : ℕ) × ((n : ℕ) → N ≤ n → (q : Fraction) × (goal_value (nth_point n point) script ≡ Some q) × IsTrue (end_at_most (end_of (lower_end lower)) (at (sum_of q (part k)))))

-- at no real point of the declared box that satisfies the script, each atom loosened by m, has the goal a value below this
abbrev pub HasRealLowerBound : Option ℕ → List Command → Fraction → Option Dyadic → Type 0
HasRealLowerBound bound script m lower = (point : List RealCoordinate) → IsInDeclaredBox bound script point → SatisfiesAtReal m point script → IsGoalAtLeast script point lower

-- What is a lower bound of the goal at the rational points of the declared box that satisfy the script loosened by a margin is one at its
-- real points that satisfy the script loosened by any number below the margin.
abbrev pub RationalBoundsSuffice : Type 0
RationalBoundsSuffice = (bound : Option ℕ) (script : List Command) → unfolding_fault script ≡ None → (g : ℕ) → goal_atom script ≡ Some g → (margin m : Fraction) → IsFraction margin → IsFraction m →
    IsBelow m margin → (lower : Option Dyadic) → HasLowerBound bound script margin lower → HasRealLowerBound bound script m lower

-- Whoever made the bytes: where they are accepted, for a problem of the script, whose goal is the term of atom g, with a lower bound, it
-- is one of the goal at each real point of the declared box that satisfies the script, each atom loosened by any number below the margin
-- of the header.
abbrev pub LowerIsOfReals : Type 0
LowerIsOfReals = (bound : Option ℕ) (script : List Command) (p : Problem) → IsProblem p → IsProblemOf bound script p → (g : ℕ) → goal_atom script ≡ Some g → (room : Bool) (bytes : List ℕ)
    (s : Loosenings) (x : Least) → IsGoalAccepted p g room bound bytes s (least x) → (m : Fraction) → IsFraction m → IsBelow m (exact (margin_of s)) → HasRealLowerBound bound script m x.lower

-- What is true at a real point as SMT-LIB has it is true there loosened by 0.
abbrev pub OverRealsIsLoosened : Type 0
OverRealsIsLoosened = (point : List RealCoordinate) (script : List Command) → SatisfiesOverReals point script → SatisfiesAtReal zero_fraction point script

-- What is true at a real point by recursion over the script, each comparison loosened by m and closed, is true there
-- loosened by m.
abbrev pub LooselyIsLoosened : Type 0
LooselyIsLoosened = (m : Fraction) (point : List RealCoordinate) (script : List Command) → SatisfiesBy (LooselyRelated m) (LooselyUnrelated m) point script →
    SatisfiesAtReal m point script

-- Whoever made the bytes: where they are accepted as such a cover, no real point of the declared box satisfies the script as
-- SMT-LIB has it.
abbrev pub UnsatIsExactOverReals : Type 0
UnsatIsExactOverReals = (bound : Option ℕ) (script : List Command) (p : Problem) → IsProblem p → IsProblemOf bound script p → (bytes : List ℕ) (s : Loosenings) →
    IsAccepted p bound bytes s (left_open []) → (point : List RealCoordinate) → IsInDeclaredBox bound script point → SatisfiesOverReals point script → ⊥

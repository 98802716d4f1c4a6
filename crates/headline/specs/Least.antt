-- What an accepted certificate of a least value says of its script.
use Rattle.std.specs.Prelude.{◌≡◌, ℕ, List, Option, Some, Bool, IsTrue}
use Rattle.dyadic.specs.Fraction.{Fraction}
use Rattle.dyadic.specs.Point.{Coordinate}
use Rattle.dyadic.specs.Rounding.{Dyadic, Ext, exact, at, end_of, end_at_most}
use Rattle.interval_model.specs.Space.{Space}
use Rattle.script_model.specs.Script.{Command, Satisfies, goal_value}
use Rattle.script_model.specs.Declared.{InDeclaredBox}
use Rattle.script_forms.specs.Atoms.{goal_atom}
use Rattle.script_forms.specs.ProblemOf.{IsProblemOf}
use Rattle.poly_graph.specs.Problem.{Problem, IsProblem}
use Rattle.cover_model.specs.State.{Loosenings, margin_of, delta_of}
use Rattle.cert_model.specs.Due.{coordinates}
use Rattle.cert_model.specs.Least.{Least, least, lower_end, upper_at, IsGoalAccepted}
use Rattle.headline.specs.Near.{IsNearDeclaredBox}

-- at no point of the declared box that satisfies the script, each atom loosened by m, has the goal a value below this
abbrev pub HasLowerBound : Option ℕ → List Command → Fraction → Option Dyadic → Type 0
HasLowerBound bound script m lower =
    (point : List Coordinate) → InDeclaredBox bound script point → Satisfies m point script → (q : Fraction) → goal_value point script ≡ Some q → IsTrue (end_at_most (end_of (lower_end lower)) (at q))

-- Whoever made the bytes: where they are accepted for a problem of the script, whose goal is the term of atom g, with a lower bound, it is one of
-- the goal at each point of the declared box that satisfies the script, each atom loosened by the margin of the header.
abbrev pub LowerMeans : Type 0
LowerMeans = (bound : Option ℕ) (script : List Command) (p : Problem) → IsProblem p → IsProblemOf bound script p → (g : ℕ) → goal_atom script ≡ Some g → (room : Bool) (bytes : List ℕ) (s : Loosenings) (x : Least) →
    IsGoalAccepted p g room bound bytes s (least x) → HasLowerBound bound script (exact (margin_of s)) x.lower

-- at the point the goal has a value, which is not above this
abbrev pub IsGoalAtMost : List Command → List Coordinate → Ext → Type 0
IsGoalAtMost script point upper = (q : Fraction) × (goal_value point script ≡ Some q) × IsTrue (end_at_most (at q) (end_of upper))

-- Where they are accepted with a point, it satisfies the script, each atom loosened by the delta of the header, lies within delta of the declared
-- box, and the goal's value there is at most the upper end of the goal's enclosure.
abbrev pub UpperMeans : Type 0
UpperMeans = (bound : Option ℕ) (script : List Command) (p : Problem) → IsProblem p → IsProblemOf bound script p → (g : ℕ) → goal_atom script ≡ Some g → (room : Bool) (bytes : List ℕ) (s : Loosenings) (x : Least) →
    IsGoalAccepted p g room bound bytes s (least x) → (space : Space) → x.point ≡ Some space →
    Satisfies (exact (delta_of s)) (coordinates space) script × IsNearDeclaredBox (exact (delta_of s)) bound script (coordinates space) ×
    IsGoalAtMost script (coordinates space) (upper_at p g space)

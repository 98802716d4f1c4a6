-- The laws of certificates of least values.
use Rattle.std.specs.Prelude.{◌≡◌, ℕ, ◌<◌, List, Option, Some, Bool, IsTrue, length}
use Rattle.dyadic.specs.Point.{Coordinate, IsPoint}
use Rattle.dyadic.specs.Rounding.{Dyadic, exact, at, end_of, end_at_most}
use Rattle.interval_model.specs.Space.{Space}
use Rattle.poly_graph.specs.Problem.{Problem, IsProblem, sorts_of_problem, in_declared_box, term_of}
use Rattle.poly_graph.specs.Term.{term_value}
use Rattle.cover_model.specs.State.{Loosenings, delta_of, MeetsAt, MeetsForm}
use Rattle.cert_model.specs.Due.{Value, coordinates}
use Rattle.cert_model.specs.Derived.{AreNear}
use Rattle.cert_model.specs.Accepted.{IsAccepted, loosenings_fit}
use Rattle.cert_model.specs.Least.{is_lines_version, Least, plain, least, lower_end, upper_at, IsGoalAccepted}

-- the value of the goal at the point, the term of atom g
abbrev pub IsNotBelow : Problem → ℕ → Option Dyadic → List Coordinate → Type 0
IsNotBelow p g lower point = IsTrue (end_at_most (end_of (lower_end lower)) (at (term_value point (term_of p g))))

-- Each point of the declared box that meets the form at the header's margin has a value of the goal that is not below the bound.
abbrev pub LowerHolds : Type 0
LowerHolds = (p : Problem) → IsProblem p → (g : ℕ) → g < length p.atoms → (room : Bool) (bound : Option ℕ) (bytes : List ℕ) (s : Loosenings) (x : Least) →
    IsGoalAccepted p g room bound bytes s (least x) →
    (point : List Coordinate) → IsPoint (sorts_of_problem p) point → IsTrue (in_declared_box p point) → MeetsForm p s point → IsNotBelow p g x.lower point

-- The point meets the form at the header's delta, lies within delta of the declared box, and has a value of the goal that is at most the
-- upper end of its enclosure there.
abbrev pub UpperHolds : Type 0
UpperHolds = (p : Problem) → IsProblem p → (g : ℕ) → g < length p.atoms → (room : Bool) (bound : Option ℕ) (bytes : List ℕ) (s : Loosenings) (x : Least) →
    IsGoalAccepted p g room bound bytes s (least x) → (space : Space) → x.point ≡ Some space →
    IsPoint (sorts_of_problem p) (coordinates space) × MeetsAt p (delta_of s) (coordinates space) × AreNear (exact (delta_of s)) p.axes (coordinates space) ×
    IsTrue (end_at_most (at (term_value (coordinates space) (term_of p g))) (end_of (upper_at p g space)))

-- Margin and delta are in their limits, and the lines are read as in version 2, or 5.
abbrev pub LeastHeaderFits : Type 0
LeastHeaderFits = (p : Problem) (g : ℕ) (room : Bool) (bound : Option ℕ) (bytes : List ℕ) (s : Loosenings) (x : Least) → IsGoalAccepted p g room bound bytes s (least x) →
    IsTrue (loosenings_fit s.margin_bits s.delta_bits) × IsTrue (is_lines_version s.version)

-- Where they are accepted as a certificate of the check, they are so without a goal.
abbrev pub PlainIsAccepted : Type 0
PlainIsAccepted = (p : Problem) (g : ℕ) (room : Bool) (bound : Option ℕ) (bytes : List ℕ) (s : Loosenings) (v : Value) → IsGoalAccepted p g room bound bytes s (plain v) → IsAccepted p bound bytes s v

-- What an accepted certificate says of its script.
use Rattle.std.specs.Prelude.{ℕ, List, [], Option}
use Rattle.dyadic.specs.Fraction.{Fraction}
use Rattle.dyadic.specs.Point.{Coordinate}
use Rattle.dyadic.specs.Rounding.{exact}
use Rattle.script_model.specs.Script.{Command, Satisfies}
use Rattle.script_model.specs.Exact.{SatisfiesExactly}
use Rattle.script_model.specs.Declared.{InDeclaredBox}
use Rattle.script_forms.specs.ProblemOf.{IsProblemOf}
use Rattle.poly_graph.specs.Problem.{Problem, IsProblem}
use Rattle.interval_model.specs.Space.{Space}
use Rattle.cover_model.specs.State.{Loosenings, margin_of, delta_of}
use Rattle.cert_model.specs.Due.{at_point, left_open, coordinates}
use Rattle.cert_model.specs.Accepted.{IsAccepted}
use Rattle.headline.specs.Near.{IsNearDeclaredBox}

-- no point of the declared box satisfies the script, each atom loosened by m
abbrev pub HasNoPoint : Option ℕ → List Command → Fraction → Type 0
HasNoPoint bound script m = (point : List Coordinate) → InDeclaredBox bound script point → Satisfies m point script → ⊥

-- Whoever made the bytes: where they are accepted, for a problem of the script, as a cover that leaves nothing, no point
-- of the script's declared box satisfies it, each atom loosened by the margin of the header.
abbrev pub UnsatMeans : Type 0
UnsatMeans = (bound : Option ℕ) (script : List Command) (p : Problem) → IsProblem p → IsProblemOf bound script p → (bytes : List ℕ) (s : Loosenings) →
    IsAccepted p bound bytes s (left_open []) → HasNoPoint bound script (exact (margin_of s))

-- no point of the declared box satisfies the script as SMT-LIB has it
abbrev pub HasNoExactPoint : Option ℕ → List Command → Type 0
HasNoExactPoint bound script = (point : List Coordinate) → InDeclaredBox bound script point → SatisfiesExactly point script → ⊥

-- Such a script has no point as SMT-LIB has it either: unsat is the solver's word for what SMT-LIB calls so, on rational
-- points of the declared box.
abbrev pub UnsatIsExact : Type 0
UnsatIsExact = (bound : Option ℕ) (script : List Command) (p : Problem) → IsProblem p → IsProblemOf bound script p → (bytes : List ℕ) (s : Loosenings) →
    IsAccepted p bound bytes s (left_open []) → HasNoExactPoint bound script

-- Where they are accepted as a point, that point satisfies the script, each atom loosened by the delta of the header, and
-- lies within delta of the script's declared box.
abbrev pub DeltaSatMeans : Type 0
DeltaSatMeans = (bound : Option ℕ) (script : List Command) (p : Problem) → IsProblem p → IsProblemOf bound script p → (bytes : List ℕ) (s : Loosenings) (space : Space) →
    IsAccepted p bound bytes s (at_point space) →
    Satisfies (exact (delta_of s)) (coordinates space) script × IsNearDeclaredBox (exact (delta_of s)) bound script (coordinates space)

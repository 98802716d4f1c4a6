-- A script as a list of commands, and what it says of a point.
use Rattle.std.specs.Prelude.{ℕ, List, [], ◌∷◌, ◌++◌, map, IsTrue, codes, Option, Some, None}
use Rattle.std.specs.List.{AllByRecursion}
use Rattle.dyadic.specs.Fraction.{Fraction, zero_fraction}
use Rattle.dyadic.specs.Point.{Sort, Coordinate}
use Rattle.script_model.specs.Sexp.{Sexp, leaf, group, none, more, Place, symbol, numeral}
use Rattle.script_model.specs.Reading.{unknown, Meanings, Names, Named, value, function, meaning}
use Rattle.script_model.specs.Meaning.{Pair, Value, loosened, pair_of, fraction_of, coordinate_value}

-- a parameter of a definition
pub record Parameter : Type 0 where
  pub at : Place
  pub name : List ℕ
  pub sort : Sort

-- the commands, each with its place
pub data Command : Type 0 where
  declare : Place → List ℕ → Sort → Command
  define : Place → List ℕ → List Parameter → Sort → Sexp → Command
  -- `assert`
  claim : Place → Sexp → Command
  -- its term is the goal, whose least value is asked for
  minimize : Place → Sexp → Command
  check : Place → Command
  ineffective : Place → Command

-- parameters stand for their arguments
abbrev pub bound_to : {V : Type 0} → List Parameter → List V → Names V
bound_to [] args = []
bound_to (p ∷ params) [] = []
bound_to (p ∷ params) (a ∷ args) = (p.name, value a) ∷ bound_to params args

-- a function of its arguments' values: its body, where each parameter stands for its argument
abbrev pub defined : {V : Type 0} → Meanings V → Names V → List Parameter → Sexp → Named V
defined M names params body = function (λ args. meaning M (bound_to params args ++ names) body)

-- ---- goals

-- A goal asserts nothing: it stands among the assertions as `(or (<= t 0) true)`, which holds at each point, so that
-- its term t is that of an atom.
abbrev pub goal_claim : Place → Sexp → Sexp
goal_claim at t = group at (more (leaf at (symbol (codes "or")))
    (more (group at (more (leaf at (symbol (codes "<="))) (more t (more (leaf at (numeral (codes "0"))) none))))
    (more (leaf at (symbol (codes "true"))) none)))

-- ---- what a script says of a point

-- the meanings of the assertions in order, goals among them; constants are what the list gives, in the order of declaration
abbrev pub claims : {V : Type 0} → Meanings V → Names V → List V → List Command → List V
claims M names constants [] = []
claims M names [] (declare at x sort ∷ rest) = claims M ((x, value (M.nothing at (unknown x))) ∷ names) [] rest
claims M names (c ∷ constants) (declare at x sort ∷ rest) = claims M ((x, value c) ∷ names) constants rest
claims M names constants (define at f params sort body ∷ rest) =
    claims M ((f, defined M names params body) ∷ names) constants rest
claims M names constants (claim at e ∷ rest) = meaning M names e ∷ claims M names constants rest
claims M names constants (minimize at t ∷ rest) = meaning M names (goal_claim at t) ∷ claims M names constants rest
claims M names constants (check at ∷ rest) = claims M names constants rest
claims M names constants (ineffective at ∷ rest) = claims M names constants rest

-- the meanings of the goals' terms in order, with the constants in the same way
abbrev pub goals : {V : Type 0} → Meanings V → Names V → List V → List Command → List V
goals M names constants [] = []
goals M names [] (declare at x sort ∷ rest) = goals M ((x, value (M.nothing at (unknown x))) ∷ names) [] rest
goals M names (c ∷ constants) (declare at x sort ∷ rest) = goals M ((x, value c) ∷ names) constants rest
goals M names constants (define at f params sort body ∷ rest) =
    goals M ((f, defined M names params body) ∷ names) constants rest
goals M names constants (claim at e ∷ rest) = goals M names constants rest
goals M names constants (minimize at t ∷ rest) = meaning M names t ∷ goals M names constants rest
goals M names constants (check at ∷ rest) = goals M names constants rest
goals M names constants (ineffective at ∷ rest) = goals M names constants rest

-- the pairs of the assertions at a point, loosened by m
abbrev pub pairs_at : Fraction → List Coordinate → List Command → List Pair
pairs_at m point script = map pair_of (claims (loosened m) [] (map coordinate_value point) script)

abbrev pub Holds : Pair → Type 0
Holds pair = IsTrue pair.pos

-- the point satisfies the script, each atom loosened by m
abbrev pub Satisfies : Fraction → List Coordinate → List Command → Type 0
Satisfies m point script = AllByRecursion Holds (pairs_at m point script)

abbrev pub first_of : {A : Type 0} → List A → Option A
first_of [] = None
first_of (a ∷ rest) = Some a

abbrev pub fraction_in : Option Value → Option Fraction
fraction_in None = None
fraction_in (Some v) = Some (fraction_of v)

-- the value of the script's goal at a point; none where the script has no goal
abbrev pub goal_value : List Coordinate → List Command → Option Fraction
goal_value point script = fraction_in (first_of (goals (loosened zero_fraction) [] (map coordinate_value point) script))

-- a declared constant, with its command's place
pub record Constant : Type 0 where
  pub at : Place
  pub name : List ℕ
  pub sort : Sort

-- the declared constants, in order
abbrev pub constants_of : List Command → List Constant
constants_of [] = []
constants_of (declare at x s ∷ rest) = record { at = at; name = x; sort = s } ∷ constants_of rest
constants_of (_ ∷ rest) = constants_of rest

-- their sorts
abbrev pub sort_of_constant : Constant → Sort
sort_of_constant c = c.sort

abbrev pub sorts_of : List Command → List Sort
sorts_of script = map sort_of_constant (constants_of script)

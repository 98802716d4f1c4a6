-- What is proved of enclosures, narrowing, states, rules and derivations.
use Rattle.std.specs.Prelude.{◌≡◌, ◌<◌, ℕ, List, [], ◌∷◌, length, not, IsTrue, Some}
use Rattle.dyadic.specs.Fraction.{Fraction, IsFraction, sum_of, product_of}
use Rattle.dyadic.specs.Point.{Sort, Coordinate, IsPoint}
use Rattle.dyadic.specs.Rounding.{exact, two_to_minus}
use Rattle.interval_model.specs.Interval.{Interval, within, holds_fraction, interval_sum, misses_nought}
use Rattle.poly_graph.specs.Term.{Term, term_value, atom_holds}
pub use Rattle.square_model.specs.Laws.{AllLie}
use Rattle.interval_model.specs.Space.{Space, in_space, is_upright, space_within, middle}
use Rattle.cover_model.specs.Space.{IsGridSpace, enclosure, range}
use Rattle.poly_graph.specs.Problem.{Problem, IsProblem, IsTerm, sorts_of_problem, atom_at, term_of, full_atom, in_declared_box, crosses}
use Rattle.cover_model.specs.Root.{root_space}
use Rattle.cover_model.specs.State.{State, Loosenings, root_state, delta_of, may, sure_within, IsPointOf, MeetsForm, MeetsAt, IsLemma, covers}
use Rattle.cover_model.specs.Fits.{IsShownAt, coordinates}
use Rattle.cover_model.specs.Narrowed.{narrowed_by}
use Rattle.cover_model.specs.OffRange.{off_range}
use Rattle.cover_model.specs.Combination.{Multipliers, combined_about, completed, completed_left}
use Rattle.cover_model.specs.Rules.{Line, Narrowing, can_narrow, narrowed_to, rule, is_stuck_atom}
use Rattle.cover_model.specs.Honest.{not_shown, is_small, none_below}
use Rattle.cover_model.specs.Derivation.{Tree, Lawful, KeepsIf, LiesWithinIf, EachWithin, Among, AreLemmas}

-- The enclosure of a term over a space holds the term's value at each point of the space.
abbrev pub EnclosureHolds : Type 0
EnclosureHolds = (sorts : List Sort) (space : Space) (point : List Coordinate) → IsPoint sorts point → IsTrue (in_space space point) → (t : Term) → IsTerm sorts t →
    IsTrue (holds_fraction (enclosure space t) (term_value point t))

-- Over a space within another the enclosure lies within the other's.
abbrev pub EnclosureIsIsotone : Type 0
EnclosureIsIsotone = (sorts : List Sort) (space outer : Space) → IsTrue (is_upright space) → IsTrue (space_within space outer) → (t : Term) → IsTerm sorts t →
    IsTrue (within (enclosure space t) (enclosure outer t))

-- Narrowing by an atom drops no point of the space at which the atom holds at the loosening, and is not empty where there is such a point.
abbrev pub NarrowingKeeps : Type 0
NarrowingKeeps = (p : Problem) → IsProblem p → (space : Space) (point : List Coordinate) → IsPoint (sorts_of_problem p) point → IsTrue (in_space space point) →
    (j bits : ℕ) → IsTrue (atom_holds (exact (two_to_minus bits)) point (full_atom p j)) →
    (narrow : Space) × (narrowed_by p.nodes (atom_at p j).0 (range (two_to_minus bits) (atom_at p j).1) space ≡ Some narrow) × IsTrue (in_space narrow point)

-- Narrowing by the off-range of an atom drops no point of the space at which the atom fails at the loosening, and is not empty where there is such a point.
abbrev pub NarrowingOffKeeps : Type 0
NarrowingOffKeeps = (p : Problem) → IsProblem p → (space : Space) (point : List Coordinate) → IsPoint (sorts_of_problem p) point → IsTrue (in_space space point) →
    (j bits : ℕ) → IsTrue (not (atom_holds (exact (two_to_minus bits)) point (full_atom p j))) →
    (narrow : Space) × (narrowed_by p.nodes (atom_at p j).0 (off_range (two_to_minus bits) (atom_at p j).1) space ≡ Some narrow) × IsTrue (in_space narrow point)

-- The narrowed space lies within the space, whatever the range.
abbrev pub NarrowingLiesWithin : Type 0
NarrowingLiesWithin = (p : Problem) → IsProblem p → (space narrow : Space) (node : ℕ) (i : Interval) → narrowed_by p.nodes node i space ≡ Some narrow → IsTrue (space_within narrow space)

-- `may` is true at each state that has a point that meets the form.
abbrev pub MayIsTrue : Type 0
MayIsTrue = (p : Problem) → IsProblem p → (s : Loosenings) (S : State) (point : List Coordinate) → IsPointOf p s S point → MeetsForm p s point → IsTrue (may p s S)

-- Where `sure` holds over a space, each of its points meets the form at that loosening.
abbrev pub SureMeans : Type 0
SureMeans = (p : Problem) → IsProblem p → (space : Space) (point : List Coordinate) → IsPoint (sorts_of_problem p) point → IsTrue (in_space space point) →
    (bits : ℕ) → IsTrue (sure_within p (two_to_minus bits) space) → MeetsAt p (two_to_minus bits) point

-- A point that is shown meets the form at delta.
abbrev pub ShownPointMeets : Type 0
ShownPointMeets = (p : Problem) → IsProblem p → (s : Loosenings) (space : Space) → IsShownAt p s space →
    IsPoint (sorts_of_problem p) (coordinates space) × MeetsAt p (delta_of s) (coordinates space)

-- A point of a state, where narrowing by it is lawful, is one of the space that the narrowing leaves.
abbrev pub NarrowsSoundly : Type 0
NarrowsSoundly = (p : Problem) → IsProblem p → (s : Loosenings) (S : State) (n : Narrowing) (point : List Coordinate) → IsPointOf p s S point → IsTrue (can_narrow p s S n) →
    (space : Space) × (narrowed_to p s S n ≡ Some space) × IsTrue (in_space space point)

-- A point of a state that meets the form is a point of some state that a rule leaves.
abbrev pub RuleKeeps : Type 0
RuleKeeps = (p : Problem) → IsProblem p → (s : Loosenings) (lemmas : List State) → AreLemmas p s lemmas → (S : State) (l : Line) (point : List Coordinate) →
    IsPointOf p s S point → MeetsForm p s point → KeepsIf p s (rule p s lemmas S l) S point

-- So it is a point of some state that stays of a lawful tree.
abbrev pub TreeKeeps : Type 0
TreeKeeps = (p : Problem) → IsProblem p → (s : Loosenings) (lemmas : List State) → AreLemmas p s lemmas → (S : State) (t : Tree) (rest : List State) → Lawful p s lemmas S t rest →
    (point : List Coordinate) → IsPointOf p s S point → MeetsForm p s point → Among p s point rest

-- Where no state stays, the tree's state has no point that meets the form.
abbrev pub ClosedTreeHasNone : Type 0
ClosedTreeHasNone = (p : Problem) → IsProblem p → (s : Loosenings) (lemmas : List State) → AreLemmas p s lemmas → (S : State) (t : Tree) → Lawful p s lemmas S t [] → IsLemma p s S

-- What a rule leaves lies within its state.
abbrev pub RuleLiesWithin : Type 0
RuleLiesWithin = (p : Problem) → IsProblem p → (s : Loosenings) (lemmas : List State) (S : State) (l : Line) → LiesWithinIf S (rule p s lemmas S l)

-- So do the states that stay of a lawful tree.
abbrev pub TreeLiesWithin : Type 0
TreeLiesWithin = (p : Problem) → IsProblem p → (s : Loosenings) (lemmas : List State) (S : State) (t : Tree) (rest : List State) → Lawful p s lemmas S t rest → EachWithin S rest

-- A point of a state is one of each state that covers it.
abbrev pub CoveredPoints : Type 0
CoveredPoints = (p : Problem) (s : Loosenings) (L S : State) (point : List Coordinate) → IsTrue (covers L S) → IsPointOf p s S point → IsPointOf p s L point

-- Each point of the declared box is one of the root state.
abbrev pub RootHasDeclaredBox : Type 0
RootHasDeclaredBox = (p : Problem) → IsProblem p → (s : Loosenings) (point : List Coordinate) → IsPoint (sorts_of_problem p) point → IsTrue (in_declared_box p point) → IsPointOf p s (root_state p) point

-- Where bounds cross, the declared box has no point.
abbrev pub CrossedBoxIsEmpty : Type 0
CrossedBoxIsEmpty = (p : Problem) (i : ℕ) (point : List Coordinate) → IsPoint (sorts_of_problem p) point → IsTrue (crosses p i) → IsTrue (in_declared_box p point) → ⊥

-- The middle of a space lies within the space, and has its ends in order and on the grid.
abbrev pub MiddleLiesWithin : Type 0
MiddleLiesWithin = (space : Space) → IsGridSpace space → IsTrue (is_upright space) → IsTrue (space_within (middle space) space) × IsTrue (is_upright (middle space)) × IsGridSpace (middle space)

-- The root space of a problem whose bounds do not cross has its ends in order and on the grid.
abbrev pub RootIsUpright : Type 0
RootIsUpright = (p : Problem) → IsProblem p → ((i : ℕ) → IsTrue (not (crosses p i))) → IsTrue (is_upright (root_space p)) × IsGridSpace (root_space p)

-- At a state in which no axis is left to halve, whose form may hold and is not sure at the middle, there is a first atom that is stuck.
abbrev pub SomeAtomIsStuck : Type 0
SomeAtomIsStuck = (p : Problem) → IsProblem p → (s : Loosenings) (S : State) (w : ℕ) → IsGridSpace S.space → IsTrue (is_upright S.space) → IsTrue (not_shown p s S) → IsTrue (is_small w S.space) →
    (j : ℕ) × (j < length p.atoms) × IsTrue (is_stuck_atom p s S j) × IsTrue (none_below p s S j)

-- A combination, expanded at any centre, drops no point of the space at which the values of all its atoms lie in their ranges, and leaves something where there is such a point.
abbrev pub CombiningKeeps : Type 0
CombiningKeeps = (p : Problem) → IsProblem p → (ranges : ℕ → Interval) (space centre : Space) (point at_centre : List Coordinate) →
    IsPoint (sorts_of_problem p) point → IsTrue (in_space space point) → IsPoint (sorts_of_problem p) at_centre → IsTrue (in_space centre at_centre) →
    (ms : Multipliers) → AllLie p ranges point ms → (narrow : Space) × (combined_about p ranges space centre ms ≡ Some narrow) × IsTrue (in_space narrow point)

-- What it leaves lies within the space.
abbrev pub CombiningLiesWithin : Type 0
CombiningLiesWithin = (p : Problem) (ranges : ℕ → Interval) (space centre : Space) (ms : Multipliers) (narrow : Space) → combined_about p ranges space centre ms ≡ Some narrow → IsTrue (space_within narrow space)

-- The completed square of a linear and a quadratic part holds their sum, and what a range leaves to it holds the variable's difference.
abbrev pub SquaresAreCompleted : Type 0
SquaresAreCompleted = (w q d s : Interval) (a k x : Fraction) → IsFraction a → IsFraction k → IsFraction x → IsTrue (misses_nought (interval_sum q q)) →
    IsTrue (holds_fraction w a) → IsTrue (holds_fraction q k) → IsTrue (holds_fraction d x) →
    IsTrue (holds_fraction (completed w q d) (sum_of (product_of a x) (product_of k (product_of x x))))
    × (IsTrue (holds_fraction s (sum_of (product_of a x) (product_of k (product_of x x)))) → IsTrue (holds_fraction (completed_left s w q d) x))

-- What is proved of polynomials and of sums of squares.
use Rattle.std.specs.Prelude.{ℕ, ◌<◌, List, [], ◌∷◌, length, IsTrue}
use Rattle.dyadic.specs.Fraction.{Fraction, IsFraction, zero_fraction, at_most}
use Rattle.dyadic.specs.Point.{Sort, Coordinate, IsPoint}
use Rattle.interval_model.specs.Interval.{Interval, holds_fraction}
use Rattle.interval_model.specs.Space.{Space, in_space}
use Rattle.poly_graph.specs.Term.{Term, term_value}
use Rattle.poly_graph.specs.Problem.{Problem, IsProblem, IsTerm, sorts_of_problem, term_of}
use Rattle.square_model.specs.Polynomial.{Polynomial, polynomial_of}
use Rattle.square_model.specs.Range.{apart_range, polynomial_range}
use Rattle.square_model.specs.Block.{Block, block_polynomial, is_block}
use Rattle.square_model.specs.Positive.{Multipliers, is_positive}
use Rattle.square_model.specs.Encloses.{apart, Encloses}

-- a point of these sorts in the space
abbrev pub IsPointIn : List Sort → Space → List Coordinate → Type 0
IsPointIn sorts space point = IsPoint sorts point × IsTrue (in_space space point)

-- At each point the polynomial of a term about a centre encloses the term's value.
abbrev pub PolynomialsEnclose : Type 0
PolynomialsEnclose = (sorts : List Sort) (centre : Space) (at_centre point : List Coordinate) → IsPointIn sorts centre at_centre → IsPoint sorts point →
    (t : Term) → IsTerm sorts t → Encloses sorts (apart point at_centre) (polynomial_of centre t) (term_value point t)

-- The range of a polynomial over a space holds what the polynomial encloses at a point of the space.
abbrev pub RangesHold : Type 0
RangesHold = (sorts : List Sort) (space centre : Space) (point at_centre : List Coordinate) → IsPointIn sorts space point → IsPointIn sorts centre at_centre →
    (p : Polynomial) (v : Fraction) → IsFraction v → Encloses sorts (apart point at_centre) p v → IsTrue (holds_fraction (polynomial_range (apart_range space centre) p) v)

-- At each point of the space a block's polynomial encloses a number that is not negative.
abbrev pub SquaresAreNotNegative : Type 0
SquaresAreNotNegative = (sorts : List Sort) (space centre : Space) (point at_centre : List Coordinate) → IsPointIn sorts space point → IsPointIn sorts centre at_centre →
    (b : Block) → IsTrue (is_block space centre b) →
    (s : Fraction) × IsFraction s × IsTrue (at_most zero_fraction s) × Encloses sorts (apart point at_centre) (block_polynomial space centre b).polynomial s

-- each is an atom, and its term's value at the point lies in its range
abbrev pub AllLie : Problem → (ℕ → Interval) → List Coordinate → Multipliers → Type 0
AllLie p ranges point [] = Unit {0}
AllLie p ranges point ((j, l) ∷ rest) = (j < length p.atoms) × IsTrue (holds_fraction (ranges j) (term_value point (term_of p j))) × AllLie p ranges point rest

-- Where the condition holds, the space has no point at which each atom's value lies in its range.
abbrev pub PositiveIsSound : Type 0
PositiveIsSound = (p : Problem) → IsProblem p → (ranges : ℕ → Interval) (space centre : Space) (ms : Multipliers) (bs : List Block) → IsTrue (is_positive p ranges space centre ms bs) →
    (at_centre : List Coordinate) → IsPointIn (sorts_of_problem p) centre at_centre → (point : List Coordinate) → IsPointIn (sorts_of_problem p) space point → AllLie p ranges point ms → ⊥

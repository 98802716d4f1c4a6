-- A combination less its blocks, and whether the line is positive, in values of the code.
use Rattle.std.specs.Prelude.{◌≡◌, ℕ, ◌+◌, ◌<◌, ◌⊎◌, List, map, Bool, true, false, Option, Some, None, length, nat_le, ◌&&◌}
use Rattle.cover_line.specs.Views.{block_of, multipliers_of}
use Rattle.interval_model.specs.Interval.{Interval}
use Rattle.ival.specs.SpaceViews.{space_of}
use Rattle.ival.specs.Views.{interval_of}
use Rattle.ival.specs.declared.space.Space.{Space}
use Rattle.poly_graph.specs.ProblemViews.{problem_of}
use Rattle.square_model.specs.Polynomial as model
use Rattle.square_model.specs.Positive.{are_blocks, are_short_below, combined_polynomial, expanded_nodes, is_above, is_positive, rest_polynomial, steps_below}
use Rattle.square_model.specs.Range.{polynomial_range}
use Rattle.square_model.specs.Steps.{Counted}
use Rattle.squares.specs.Pairs.{AreRanges, sum_of_ranges}
use Rattle.squares.specs.Views.{apart_over, terms_of}
use Rattle.cover_line.specs.declared.block.Block.{Block}
use Rattle.squares.specs.declared.budget.Budget.{Budget}
use Rattle.squares.specs.declared.combination.Combination.{Combination}
use Rattle.squares.specs.declared.polynomial.Polynomial.{Polynomial}

-- no node of its terms has a monomial of more than 32 axes
abbrev pub are_short : Combination → Space → Bool
are_short c centre = let p = problem_of c.problem.now in are_short_below (space_of centre) p.nodes (expanded_nodes p (multipliers_of c.multipliers.now)) (length p.nodes)

-- of the nodes of its terms
abbrev pub node_steps : Combination → Space → ℕ
node_steps c centre = let p = problem_of c.problem.now in steps_below (space_of centre) p.nodes (expanded_nodes p (multipliers_of c.multipliers.now)) (length p.nodes)

abbrev pub combination_of : Combination → Space → Counted
combination_of c centre = combined_polynomial (problem_of c.problem.now) (space_of centre) (multipliers_of c.multipliers.now)

abbrev pub rest_of : Combination → List Block → Space → Space → Counted
rest_of c bs space centre = rest_polynomial (problem_of c.problem.now) (space_of space) (space_of centre) (multipliers_of c.multipliers.now) (map block_of bs)

-- the combination expanded within the limits, or it is not within them
abbrev pub IsSpread : Combination → Space → Budget → Budget → Option Polynomial → Type 0
IsSpread c centre old new None = (are_short c centre ≡ false) ⊎ (old.left < node_steps c centre + (combination_of c centre).steps)
IsSpread c centre old new (Some p) = (are_short c centre ≡ true) × (terms_of p ≡ (combination_of c centre).polynomial) × (new.left + (node_steps c centre + (combination_of c centre).steps) ≡ old.left)

-- what holds of the rest
pub record IsRestOf (c : Combination) (bs : List Block) (space centre : Space) (old new : Budget) (p : Polynomial) : Type 0 where
  pub short : are_short c centre ≡ true
  pub blocks : are_blocks (space_of space) (space_of centre) (map block_of bs) ≡ true
  pub polynomial : terms_of p ≡ (rest_of c bs space centre).polynomial
  pub steps : new.left + (node_steps c centre + (rest_of c bs space centre).steps) ≡ old.left

-- the rest within the limits; or its terms are not, a block is not one, or it takes too many steps
abbrev pub IsRest : Combination → List Block → Space → Space → Budget → Budget → Option Polynomial → Type 0
IsRest c bs space centre old new None =
    (are_short c centre ≡ false) ⊎ ((are_blocks (space_of space) (space_of centre) (map block_of bs) ≡ false) ⊎ (old.left < node_steps c centre + (rest_of c bs space centre).steps))
IsRest c bs space centre old new (Some p) = IsRestOf c bs space centre old new p

-- so many steps are left, and the range is above what the atoms' ranges allow
abbrev pub is_above_allowed : Combination → model.Polynomial → Space → Space → Budget → Bool
is_above_allowed c p space centre old = nat_le (length p) old.left && is_above (polynomial_range (apart_over space centre) p) (sum_of_ranges (multipliers_of c.multipliers.now) (map interval_of c.ranges.now))

-- whether the line is positive and within the limits, where the atoms' ranges are those that they have there
abbrev pub TellsPositive : Combination → List Block → Space → Space → Bool → Type 0
TellsPositive c bs space centre b = (ranges : ℕ → Interval) → AreRanges ranges c →
    b ≡ is_positive (problem_of c.problem.now) ranges (space_of space) (space_of centre) (multipliers_of c.multipliers.now) (map block_of bs)

-- The pairs of a combination and the ranges of their atoms.
use Rattle.std.specs.Prelude.{◌≡◌, ℕ, ◌<◌, List, ◌∷◌, All, length, map}
use Rattle.cover_line.specs.Line.{Multipliers}
use Rattle.cover_line.specs.Views.{multipliers_of}
use Rattle.interval_model.specs.Interval.{Interval, interval_sum, interval_product}
use Rattle.ival.specs.Views.{interval_of}
use Rattle.square_model.specs.Polynomial.{only, nought_alone}
use Rattle.squares.specs.declared.combination.Combination.{Combination}

-- of ranges, each times the multiplier of its pair
abbrev pub sum_of_ranges : Multipliers → List Interval → Interval
sum_of_ranges ((j, l) ∷ ms) (i ∷ is) = interval_sum (sum_of_ranges ms is) (interval_product (only l) i)
sum_of_ranges _ _ = nought_alone

-- the pairs name atoms of the problem
abbrev pub NamesAtoms : Combination → Type 0
NamesAtoms c = All (λ x. x.0 < length c.problem.now.atoms) c.multipliers.now

-- there is a range for each pair
abbrev pub HasRanges : Combination → Type 0
HasRanges c = length c.ranges.now ≡ length c.multipliers.now

-- each atom's range is the one that it has there
abbrev pub AreRanges : (ℕ → Interval) → Combination → Type 0
AreRanges ranges c = map interval_of c.ranges.now ≡ map (λ x. ranges x.0) (multipliers_of c.multipliers.now)

-- What a node adds to the rest of an expansion.
use Rattle.std.specs.Prelude.{◌≡◌, ℕ, List, Option, Some, None}
use Rattle.dyadic.specs.Rounding.{Dyadic}
use Rattle.interval_model.specs.Interval.{Interval, interval_sum, interval_product, interval_square}
use Rattle.poly_graph.specs.Term.{Node, variable_node, multiply_node}
use Rattle.cover_model.specs.Combination.{Part, Expansion, off_centre, only, nought_alone}

abbrev pub expansion_with : List Part → Interval → Expansion
expansion_with parts rest = record { parts = parts; rest = rest }

-- a number alone
abbrev pub IsSingle : Interval → Type 0
IsSingle i = (d : Dyadic) × (i ≡ only d)

-- with the square of node k's difference, times its coefficient
abbrev pub with_square : List Interval → List Interval → ℕ → Option Interval → Interval → Interval
with_square es cs k None rest = rest
with_square es cs k (Some q) rest = interval_sum rest (interval_product q (interval_square (off_centre es cs k)))

-- with what is left over of a product
abbrev pub with_product : List Interval → List Interval → ℕ → ℕ → Interval → Interval → Interval
with_product es cs a b w rest = interval_sum rest (interval_product w (interval_product (off_centre es cs a) (off_centre es cs b)))

-- node k has one value, at the centre too
abbrev pub IsStill : List Interval → List Interval → ℕ → Type 0
IsStill es cs k = off_centre es cs k ≡ nought_alone

-- nothing is left over of a product of these nodes with the coefficient w
abbrev pub IsNothingOver : List Interval → List Interval → ℕ → ℕ → Interval → Type 0
IsNothingOver es cs a b w = interval_product w (interval_product (off_centre es cs a) (off_centre es cs b)) ≡ nought_alone

-- with what node k adds to it, whose coefficients are w and q
abbrev pub with_node : List Interval → List Interval → ℕ → Interval → Option Interval → Node → Interval → Interval
with_node es cs k w q (variable_node axis) rest = rest
with_node es cs k w q (multiply_node a b) rest = with_product es cs a b w (with_square es cs k q rest)
with_node es cs k w q n rest = with_square es cs k q rest

-- Small lines of squares, computed.
use Rattle.std.specs.Prelude.{◌≡◌, ℕ, [], ◌∷◌, true, false, pos, negsuc, ◌^◌, ◌*◌, ◌-◌, refl}
use Rattle.dyadic.specs.Fraction.{Fraction}
use Rattle.dyadic.specs.Rounding.{Dyadic, below_all, finite}
use Rattle.interval_model.specs.Interval.{Interval, between}
use Rattle.interval_model.specs.Space.{Space, real_domain, middle}
use Rattle.poly_graph.specs.Term.{le, constant_node, variable_node, negate_node, add_node, square_node}
use Rattle.poly_graph.specs.Form.{atom_is}
use Rattle.poly_graph.specs.Problem.{Problem, Axis, real_between, term_of}
use Rattle.square_model.specs.Polynomial.{only, nought_alone, one_alone, polynomial_of}
use Rattle.square_model.specs.Range.{apart_range, polynomial_range}
use Rattle.square_model.specs.Block.{Block, no_factor, bound_of, block_polynomial}
use Rattle.square_model.specs.Positive.{all_steps, is_positive}

abbrev fraction : ℕ → ℕ → Fraction
fraction n d = record { num = pos n; den = d }

-- m * 2^-k
abbrev dyadic : ℕ → ℕ → Dyadic
dyadic m k = record { units = pos (m * 2 ^ (120 - k)) }

abbrev minus_dyadic : ℕ → ℕ → Dyadic
minus_dyadic m k = record { units = negsuc (m * 2 ^ (120 - k) - 1) }

abbrev unit_axis : ℕ → Axis
unit_axis name = record { name = name ∷ []; declared = real_between (fraction 0 1) (fraction 1 1) }

abbrev unit_square : Space
unit_square = real_domain (dyadic 0 0) (dyadic 1 0) ∷ real_domain (dyadic 0 0) (dyadic 1 0) ∷ []

-- at most 0
abbrev below_nought : ℕ → Interval
below_nought j = between below_all (finite (dyadic 0 0))

-- ---- (x - y)^2 + 1/4 is above 0 over the unit square, by the square of x - y

abbrev distance : Problem
distance = record {
  axes = unit_axis 120 ∷ unit_axis 121 ∷ [];
  nodes = variable_node 0 ∷ variable_node 1 ∷ negate_node 1 ∷ add_node 0 2 ∷ square_node 3 ∷ constant_node (fraction 1 4) ∷ add_node 4 5 ∷ [];
  atoms = (6, le) ∷ [];
  form = atom_is 0;
}

abbrev difference : Block
difference = record {
  factor = no_factor;
  monomials = (0 ∷ []) ∷ (1 ∷ []) ∷ [];
  rows = (dyadic 1 0 ∷ minus_dyadic 1 0 ∷ []) ∷ (dyadic 0 0 ∷ []) ∷ [];
}

distance_expanded : polynomial_of (middle unit_square) (term_of distance 0)
    ≡ ([], only (dyadic 1 2)) ∷ (0 ∷ [], nought_alone) ∷ (0 ∷ 0 ∷ [], one_alone) ∷ (0 ∷ 1 ∷ [], only (minus_dyadic 2 0)) ∷ (1 ∷ [], nought_alone) ∷ (1 ∷ 1 ∷ [], one_alone) ∷ []
unfolding Rattle.dyadic.specs.Fraction.negated Rattle.dyadic.specs.Fraction.sum_of Rattle.dyadic.specs.Fraction.product_of Rattle.dyadic.specs.Fraction.quotient_of Rattle.dyadic.specs.Fraction.at_most
distance_expanded = refl

distance_is_positive : is_positive distance below_nought unit_square (middle unit_square) ((0, dyadic 1 0) ∷ []) (difference ∷ []) ≡ true
unfolding Rattle.dyadic.specs.Fraction.negated Rattle.dyadic.specs.Fraction.sum_of Rattle.dyadic.specs.Fraction.product_of Rattle.dyadic.specs.Fraction.quotient_of Rattle.dyadic.specs.Fraction.at_most
distance_is_positive = refl

distance_takes : all_steps distance unit_square (middle unit_square) ((0, dyadic 1 0) ∷ []) (difference ∷ []) ≡ 57
unfolding Rattle.dyadic.specs.Fraction.negated Rattle.dyadic.specs.Fraction.sum_of Rattle.dyadic.specs.Fraction.product_of Rattle.dyadic.specs.Fraction.quotient_of Rattle.dyadic.specs.Fraction.at_most
distance_takes = refl

-- without the square its range goes down to 1/4 - 1/2
distance_has_range : polynomial_range (apart_range unit_square (middle unit_square)) (polynomial_of (middle unit_square) (term_of distance 0)) ≡ between (finite (minus_dyadic 1 2)) (finite (dyadic 5 2))
unfolding Rattle.dyadic.specs.Fraction.negated Rattle.dyadic.specs.Fraction.sum_of Rattle.dyadic.specs.Fraction.product_of Rattle.dyadic.specs.Fraction.quotient_of Rattle.dyadic.specs.Fraction.at_most
distance_has_range = refl

distance_alone_is_not : is_positive distance below_nought unit_square (middle unit_square) ((0, dyadic 1 0) ∷ []) [] ≡ false
unfolding Rattle.dyadic.specs.Fraction.negated Rattle.dyadic.specs.Fraction.sum_of Rattle.dyadic.specs.Fraction.product_of Rattle.dyadic.specs.Fraction.quotient_of Rattle.dyadic.specs.Fraction.at_most
distance_alone_is_not = refl

-- ---- x - x^2 + 1/8 is above 0 from 0 to 1, by 1/4 - (x - 1/2)^2

abbrev arch : Problem
arch = record {
  axes = unit_axis 120 ∷ [];
  nodes = variable_node 0 ∷ square_node 0 ∷ negate_node 1 ∷ add_node 0 2 ∷ constant_node (fraction 1 8) ∷ add_node 3 4 ∷ [];
  atoms = (5, le) ∷ [];
  form = atom_is 0;
}

abbrev unit : Space
unit = real_domain (dyadic 0 0) (dyadic 1 0) ∷ []

abbrev bound : Block
bound = record { factor = bound_of 0; monomials = [] ∷ []; rows = (dyadic 1 0 ∷ []) ∷ [] }

bound_expanded : block_polynomial unit (middle unit) bound ≡ record { polynomial = ([], only (dyadic 1 2)) ∷ (0 ∷ 0 ∷ [], only (minus_dyadic 1 0)) ∷ []; steps = 4 }
unfolding Rattle.dyadic.specs.Fraction.negated Rattle.dyadic.specs.Fraction.sum_of Rattle.dyadic.specs.Fraction.product_of Rattle.dyadic.specs.Fraction.quotient_of Rattle.dyadic.specs.Fraction.at_most
bound_expanded = refl

arch_is_positive : is_positive arch below_nought unit (middle unit) ((0, dyadic 1 0) ∷ []) (bound ∷ []) ≡ true
unfolding Rattle.dyadic.specs.Fraction.negated Rattle.dyadic.specs.Fraction.sum_of Rattle.dyadic.specs.Fraction.product_of Rattle.dyadic.specs.Fraction.quotient_of Rattle.dyadic.specs.Fraction.at_most
arch_is_positive = refl

arch_takes : all_steps arch unit (middle unit) ((0, dyadic 1 0) ∷ []) (bound ∷ []) ≡ 31
unfolding Rattle.dyadic.specs.Fraction.negated Rattle.dyadic.specs.Fraction.sum_of Rattle.dyadic.specs.Fraction.product_of Rattle.dyadic.specs.Fraction.quotient_of Rattle.dyadic.specs.Fraction.at_most
arch_takes = refl

-- a block that has a monomial twice is none
twice_is_no_block : is_positive arch below_nought unit (middle unit) ((0, dyadic 1 0) ∷ []) (record { factor = bound_of 0; monomials = [] ∷ [] ∷ []; rows = (dyadic 1 0 ∷ []) ∷ [] } ∷ []) ≡ false
unfolding Rattle.dyadic.specs.Fraction.negated Rattle.dyadic.specs.Fraction.sum_of Rattle.dyadic.specs.Fraction.product_of Rattle.dyadic.specs.Fraction.quotient_of Rattle.dyadic.specs.Fraction.at_most
twice_is_no_block = refl

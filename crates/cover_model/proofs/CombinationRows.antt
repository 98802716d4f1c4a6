-- Small combinations, computed.
use Rattle.std.specs.Prelude.{◌≡◌, ℕ, [], ◌∷◌, false, Option, Some, None, refl}
use Rattle.dyadic.specs.Fraction.{negated, sum_of, product_of, quotient_of, at_most}
use Rattle.dyadic.specs.Rounding.{Ext, finite, above_all}
use Rattle.interval_model.specs.Interval.{Interval, nothing, between}
use Rattle.interval_model.specs.Space.{real_domain, axis_interval}
use Rattle.poly_graph.specs.Term.{Node, constant_node, variable_node, negate_node, add_node, multiply_node, square_node, le, ge}
use Rattle.poly_graph.specs.Form.{yes_form}
use Rattle.poly_graph.specs.Marks.{marked_yes, marked_no, unmarked}
use Rattle.poly_graph.specs.Problem.{Problem}
use Rattle.cover_model.specs.State.{State, root_state, with_no}
use Rattle.cover_model.specs.Combination.{Multipliers}
use Rattle.cover_model.specs.Rules.{Left, closed, one, combine, void_combine, can_combine, rule}
use Rattle.cover_model.proofs.Rows.{fraction, minus, dyadic, minus_dyadic, loosenings, first_loosenings, axis, difference}

-- ---- x^2 - x + 1 <= 0 where x is from 0 to 1, with the square written as a square, and as a product

abbrev parabola : Node → Problem
parabola second = record {
  axes = axis 120 (fraction 0 1) (fraction 1 1) ∷ [];
  nodes = variable_node 0 ∷ second ∷ negate_node 0 ∷ add_node 1 2 ∷ constant_node (fraction 1 1) ∷ add_node 3 4 ∷ [];
  atoms = (5, le) ∷ [];
  form = yes_form;
}

abbrev unit_line : State
unit_line = record { space = real_domain (dyadic 0 0) (dyadic 1 0) ∷ []; marks = marked_yes ∷ [] }

abbrev once : Multipliers
once = (0, dyadic 1 0) ∷ []

square_is_refuted : rule (parabola (square_node 0)) loosenings [] unit_line (void_combine once) ≡ Some closed
unfolding negated sum_of product_of quotient_of at_most
square_is_refuted = refl

product_is_refuted : rule (parabola (multiply_node 0 0)) loosenings [] unit_line (void_combine once) ≡ Some closed
unfolding negated sum_of product_of quotient_of at_most
product_is_refuted = refl

-- and where x is from -10 to 4: the square is kept apart and completed, a product is not
abbrev wide_line : State
wide_line = record { space = real_domain (minus_dyadic 10 0) (dyadic 4 0) ∷ []; marks = marked_yes ∷ [] }

square_is_completed : rule (parabola (square_node 0)) loosenings [] wide_line (void_combine once) ≡ Some closed
unfolding negated sum_of product_of quotient_of at_most
square_is_completed = refl

product_is_not_completed : rule (parabola (multiply_node 0 0)) loosenings [] wide_line (void_combine once) ≡ None
unfolding negated sum_of product_of quotient_of at_most
product_is_not_completed = refl

-- ---- x + y >= 3, x - y >= 1 and x <= 3/2

abbrev lines : Problem
lines = record {
  axes = axis 120 (fraction 0 1) (fraction 4 1) ∷ axis 121 (fraction 0 1) (fraction 4 1) ∷ [];
  nodes = variable_node 0 ∷ variable_node 1 ∷ add_node 0 1 ∷ constant_node (minus 3 1) ∷ add_node 2 3
      ∷ negate_node 1 ∷ add_node 0 5 ∷ constant_node (minus 1 1) ∷ add_node 6 7
      ∷ constant_node (minus 3 2) ∷ add_node 0 9 ∷ [];
  atoms = (4, ge) ∷ (8, ge) ∷ (10, le) ∷ [];
  form = yes_form;
}

-- x up to this many halves, y from 0 to 4
abbrev box_to : ℕ → State
box_to h = record { space = real_domain (dyadic 0 0) (dyadic h 1) ∷ real_domain (dyadic 0 0) (dyadic 4 0) ∷ []; marks = marked_yes ∷ marked_yes ∷ marked_yes ∷ [] }

abbrev all_three : Multipliers
all_three = (0, dyadic 1 0) ∷ (1, dyadic 1 0) ∷ (2, minus_dyadic 2 0) ∷ []

abbrev first_two : Multipliers
first_two = (0, dyadic 1 0) ∷ (1, dyadic 1 0) ∷ []

-- the third atom says that x is at most 3/2
three_are_refuted : rule lines loosenings [] (box_to 8) (void_combine all_three) ≡ Some closed
unfolding negated sum_of product_of quotient_of at_most
three_are_refuted = refl

-- or the box does
two_are_refuted : rule lines loosenings [] (box_to 3) (void_combine first_two) ≡ Some closed
unfolding negated sum_of product_of quotient_of at_most
two_are_refuted = refl

-- the lines are of version 2
two_of_the_first_version : rule lines first_loosenings [] (box_to 3) (void_combine first_two) ≡ None
unfolding negated sum_of product_of quotient_of at_most
two_of_the_first_version = refl

-- in the whole box twice x is at least 4, less the loosenings
two_are_not_refuted : rule lines loosenings [] (box_to 8) (void_combine first_two) ≡ None
unfolding negated sum_of product_of quotient_of at_most
two_are_not_refuted = refl

abbrev low_end : Interval → Ext
low_end nothing = above_all
low_end (between l h) = l

abbrev lower_of : ℕ → Option Left → Ext
lower_of i (Some (one S)) = low_end (axis_interval S.space i)
lower_of i o = above_all

abbrev high_end : Interval → Ext
high_end nothing = above_all
high_end (between l h) = h

abbrev upper_of : ℕ → Option Left → Ext
upper_of i (Some (one S)) = high_end (axis_interval S.space i)
upper_of i o = above_all

-- so x is at least 2, less the loosenings
two_are_narrowed : lower_of 0 (rule lines loosenings [] (box_to 8) (combine first_two)) ≡ finite (dyadic 2097151 20)
unfolding negated sum_of product_of quotient_of at_most
two_are_narrowed = refl

-- ---- an inequality that fails: where x + y < 3 and x - y >= 1, twice y is at most 2

-- y from this many halves to 4
abbrev fails_from : ℕ → State
fails_from l = record { space = real_domain (dyadic 0 0) (dyadic 4 0) ∷ real_domain (dyadic l 1) (dyadic 4 0) ∷ []; marks = marked_no ∷ marked_yes ∷ unmarked ∷ [] }

abbrev apart_by_two : Multipliers
apart_by_two = (0, dyadic 1 0) ∷ (1, minus_dyadic 1 0) ∷ []

failing_is_refuted : rule lines loosenings [] (fails_from 3) (void_combine apart_by_two) ≡ Some closed
unfolding negated sum_of product_of quotient_of at_most
failing_is_refuted = refl

failing_is_narrowed : upper_of 1 (rule lines loosenings [] (fails_from 1) (combine apart_by_two)) ≡ finite (dyadic 1 0)
unfolding negated sum_of product_of quotient_of at_most
failing_is_narrowed = refl

-- ---- what may not be combined

unmarked_may_not : can_combine lines loosenings (fails_from 3) all_three ≡ false
unmarked_may_not = refl

falling_may_not : can_combine lines loosenings (box_to 3) ((1, dyadic 1 0) ∷ (0, dyadic 1 0) ∷ []) ≡ false
falling_may_not = refl

twice_may_not : can_combine lines loosenings (box_to 3) ((1, dyadic 1 0) ∷ (1, dyadic 1 0) ∷ []) ≡ false
twice_may_not = refl

nought_may_not : can_combine lines loosenings (box_to 3) ((0, dyadic 0 0) ∷ (1, dyadic 1 0) ∷ []) ≡ false
nought_may_not = refl

none_may_not : can_combine lines loosenings (box_to 3) [] ≡ false
none_may_not = refl

fourth_may_not : can_combine lines loosenings (box_to 3) ((3, dyadic 1 0) ∷ []) ≡ false
fourth_may_not = refl

failing_equation_may_not : can_combine difference loosenings (with_no (root_state difference) 0) once ≡ false
unfolding negated sum_of product_of quotient_of at_most
failing_equation_may_not = refl

-- ---- a point that meets the atoms is kept: 1 - x <= 0 and x^2 - x <= 0 hold at 1

abbrev meeting : Problem
meeting = record {
  axes = axis 120 (fraction 0 1) (fraction 1 1) ∷ [];
  nodes = variable_node 0 ∷ square_node 0 ∷ negate_node 0 ∷ add_node 1 2 ∷ constant_node (fraction 1 1) ∷ add_node 2 4 ∷ [];
  atoms = (3, le) ∷ (5, le) ∷ [];
  form = yes_form;
}

abbrev meeting_box : State
meeting_box = record { space = real_domain (dyadic 0 0) (dyadic 1 0) ∷ []; marks = marked_yes ∷ marked_yes ∷ [] }

meeting_is_kept : rule meeting loosenings [] meeting_box (void_combine first_two) ≡ None
unfolding negated sum_of product_of quotient_of at_most
meeting_is_kept = refl

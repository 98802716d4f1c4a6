-- The value and the truth of an expression at a point as SMT-LIB 2.6 has them (theories Core and Reals): comparisons
-- are not loosened, strict ones are strict, and a Bool expression is true or false.
use Rattle.std.specs.Prelude.{List, [], ◌∷◌, map, Bool, true, false, not, ◌&&◌, ◌||◌, cond, Option, Some, None, IsTrue}
use Rattle.std.specs.List.{AllByRecursion}
use Rattle.dyadic.specs.Fraction.{Fraction, zero_fraction, negated, sum_of, difference_of, product_of, quotient_of, at_most}
use Rattle.dyadic.specs.Point.{Coordinate, at_fraction, at_bool}
use Rattle.script_model.specs.Reading.{Operator, truth, falsehood, negation, conjunction, disjunction, implication, exclusive, equality, distinctness, choice, minus, plus, times, divide, at_most_op, below_op, at_least_op, above_op, Meanings}
use Rattle.script_model.specs.Meaning.{all_true, some_true, neighbours, pairs, from_left, first_and_rest}
use Rattle.script_model.specs.Script.{Command, claims}

-- an expression without a sort has no sense
pub data Exact : Type 0 where
  number : Fraction → Exact
  truth_is : Bool → Exact
  senseless : Exact

-- ---- arguments of one sort

abbrev pub with_one : {A : Type 0} → A → Option (List A) → Option (List A)
with_one a None = None
with_one a (Some rest) = Some (a ∷ rest)

abbrev pub numbers : List Exact → Option (List Fraction)
numbers [] = Some []
numbers (number q ∷ rest) = with_one q (numbers rest)
numbers (_ ∷ rest) = None

abbrev pub truths : List Exact → Option (List Bool)
truths [] = Some []
truths (truth_is b ∷ rest) = with_one b (truths rest)
truths (_ ∷ rest) = None

abbrev pub of_these : {A : Type 0} → (A → Exact) → Option A → Exact
of_these f None = senseless
of_these f (Some a) = f a

abbrev pub of_numbers : (List Fraction → Fraction) → List Exact → Exact
of_numbers f args = of_these (λ qs. number (f qs)) (numbers args)

abbrev pub of_truths : (List Bool → Bool) → List Exact → Exact
of_truths f args = of_these (λ bs. truth_is (f bs)) (truths args)

-- ---- comparisons

abbrev pub equal : Fraction → Fraction → Bool
equal a b = at_most a b && at_most b a

abbrev pub unequal : Fraction → Fraction → Bool
unequal a b = not (equal a b)

abbrev pub at_least : Fraction → Fraction → Bool
at_least a b = at_most b a

abbrev pub below : Fraction → Fraction → Bool
below a b = not (at_most b a)

abbrev pub above : Fraction → Fraction → Bool
above a b = not (at_most a b)

abbrev pub compares : (List Fraction → List Bool) → List Exact → Exact
compares f args = of_these (λ qs. truth_is (all_true (f qs))) (numbers args)

-- ---- connectives

-- `xor`
abbrev pub differ : Bool → Bool → Bool
differ true b = not b
differ false b = b

abbrev pub agree : Bool → Bool → Bool
agree a b = not (differ a b)

abbrev pub opposite : List Bool → Bool
opposite [] = true
opposite (a ∷ _) = not a

-- from the right
abbrev pub implied : List Bool → Bool
implied [] = true
implied (a ∷ []) = a
implied (a ∷ b ∷ rest) = not a || implied (b ∷ rest)

abbrev pub chosen : List Bool → Bool
chosen (c ∷ a ∷ b ∷ _) = cond c a b
chosen _ = true

-- ---- operators

-- of one argument the opposite
abbrev pub subtraction : List Fraction → Fraction
subtraction [] = zero_fraction
subtraction (a ∷ []) = negated a
subtraction (a ∷ b ∷ rest) = from_left difference_of (difference_of a b) rest

-- `ite`, by the sort of its first arm
abbrev pub exact_choice : List Exact → Exact
exact_choice (truth_is c ∷ number p ∷ number q ∷ _) = number (cond c p q)
exact_choice args = of_truths chosen args

-- = and distinct, by the sort of the first argument
abbrev pub exact_equality : List Exact → Exact
exact_equality (truth_is b ∷ rest) = of_truths (λ bs. all_true (neighbours agree bs)) (truth_is b ∷ rest)
exact_equality args = compares (neighbours equal) args

abbrev pub exact_distinctness : List Exact → Exact
exact_distinctness (truth_is b ∷ rest) = of_truths (λ bs. all_true (pairs differ bs)) (truth_is b ∷ rest)
exact_distinctness args = compares (pairs unequal) args

-- no accepted script divides by 0
abbrev pub exact_operation : Operator → List Exact → Exact
exact_operation truth args = truth_is true
exact_operation falsehood args = truth_is false
exact_operation negation args = of_truths opposite args
exact_operation conjunction args = of_truths all_true args
exact_operation disjunction args = of_truths some_true args
exact_operation implication args = of_truths implied args
exact_operation exclusive args = of_truths (first_and_rest differ true) args
exact_operation equality args = exact_equality args
exact_operation distinctness args = exact_distinctness args
exact_operation choice args = exact_choice args
exact_operation minus args = of_numbers subtraction args
exact_operation plus args = of_numbers (first_and_rest sum_of zero_fraction) args
exact_operation times args = of_numbers (first_and_rest product_of zero_fraction) args
exact_operation divide args = of_numbers (first_and_rest quotient_of zero_fraction) args
exact_operation at_most_op args = compares (neighbours at_most) args
exact_operation below_op args = compares (neighbours below) args
exact_operation at_least_op args = compares (neighbours at_least) args
exact_operation above_op args = compares (neighbours above) args

abbrev pub exactly : Meanings Exact
exactly = record {
  literal = λ at q. number q;
  named = λ at v. v;
  apply = λ at op args. exact_operation op args;
  annotated = λ at v. v;
  bind = λ at names vs v. v;
  call = λ at vs v. v;
  nothing = λ at why. senseless;
}

-- ---- scripts

abbrev pub exact_coordinate : Coordinate → Exact
exact_coordinate (at_fraction q) = number q
exact_coordinate (at_bool b) = truth_is b

abbrev pub IsTruth : Exact → Type 0
IsTruth (truth_is b) = IsTrue b
IsTruth _ = ⊥

-- each assertion is true at the point
abbrev pub SatisfiesExactly : List Coordinate → List Command → Type 0
SatisfiesExactly point script = AllByRecursion IsTruth (claims exactly [] (map exact_coordinate point) script)

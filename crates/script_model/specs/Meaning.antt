-- The value of a Real expression, and the pair of truth values of a Bool expression, at a point, loosened.
use Rattle.std.specs.Prelude.{List, [], ◌∷◌, ◌++◌, map, Bool, true, false, not, ◌&&◌, ◌||◌}
use Rattle.dyadic.specs.Fraction.{Fraction, zero_fraction, negated, sum_of, difference_of, product_of, quotient_of, at_most}
use Rattle.dyadic.specs.Point.{Coordinate, at_fraction, at_bool}
use Rattle.script_model.specs.Sexp.{Sexp}
use Rattle.script_model.specs.Reading.{Operator, truth, falsehood, negation, conjunction, disjunction, implication, exclusive, equality, distinctness, choice, minus, plus, times, divide, at_most_op, below_op, at_least_op, above_op, Meanings, Names, meaning}

-- pos: the expression holds loosened; neg: its negation does
pub record Pair : Type 0 where
  pub pos : Bool
  pub neg : Bool

-- what an expression stands for, by its sort
pub data Value : Type 0 where
  real : Fraction → Value
  bool : Pair → Value
  -- a Real `ite`: what it stands for where its condition holds, and where the negation of its condition does
  either : Pair → Value → Value → Value

-- of a value of the other sort: no accepted script asks
abbrev pub fraction_of : Value → Fraction
fraction_of (real q) = q
fraction_of _ = zero_fraction

abbrev pub pair_of : Value → Pair
pair_of (bool t) = t
pair_of _ = record { pos = false; neg = false }

-- ---- comparisons of a and b, loosened by m

-- a - b <= m
abbrev pub not_above : Fraction → Fraction → Fraction → Bool
not_above m a b = at_most (difference_of a b) m

-- a - b >= -m
abbrev pub not_below : Fraction → Fraction → Fraction → Bool
not_below m a b = at_most (negated m) (difference_of a b)

-- -m <= a - b <= m
abbrev pub near : Fraction → Fraction → Fraction → Bool
near m a b = not_below m a b && not_above m a b

abbrev pub at_most_pair : Fraction → Fraction → Fraction → Pair
at_most_pair m a b = record { pos = not_above m a b; neg = not_below m a b }

abbrev pub at_least_pair : Fraction → Fraction → Fraction → Pair
at_least_pair m a b = record { pos = not_below m a b; neg = not_above m a b }

abbrev pub equal_pair : Fraction → Fraction → Fraction → Pair
equal_pair m a b = record { pos = near m a b; neg = true }

-- ---- connectives

abbrev pub true_pair : Pair
true_pair = record { pos = true; neg = false }

abbrev pub not_pair : Pair → Pair
not_pair a = record { pos = a.neg; neg = a.pos }

abbrev pub and_pair : Pair → Pair → Pair
and_pair a b = record { pos = a.pos && b.pos; neg = a.neg || b.neg }

abbrev pub or_pair : Pair → Pair → Pair
or_pair a b = record { pos = a.pos || b.pos; neg = a.neg && b.neg }

abbrev pub xor_pair : Pair → Pair → Pair
xor_pair a b = record { pos = (a.pos && b.neg) || (a.neg && b.pos); neg = (a.pos && b.pos) || (a.neg && b.neg) }

abbrev pub choice_pair : Pair → Pair → Pair → Pair
choice_pair c a b = record { pos = (c.pos && a.pos) || (c.neg && b.pos); neg = (c.pos && a.neg) || (c.neg && b.neg) }

abbrev pub all_true : List Bool → Bool
all_true [] = true
all_true (b ∷ rest) = b && all_true rest

abbrev pub some_true : List Bool → Bool
some_true [] = false
some_true (b ∷ rest) = b || some_true rest

abbrev pub pos_of : Pair → Bool
pos_of a = a.pos

abbrev pub neg_of : Pair → Bool
neg_of a = a.neg

-- all pos, and some neg
abbrev pub all_pair : List Pair → Pair
all_pair ts = record { pos = all_true (map pos_of ts); neg = some_true (map neg_of ts) }

-- some pos, and all neg
abbrev pub any_pair : List Pair → Pair
any_pair ts = record { pos = some_true (map pos_of ts); neg = all_true (map neg_of ts) }

-- from the right
abbrev pub implies_pair : List Pair → Pair
implies_pair [] = true_pair
implies_pair (a ∷ []) = a
implies_pair (a ∷ b ∷ rest) = or_pair (not_pair a) (implies_pair (b ∷ rest))

-- ---- several arguments

-- f of each neighbouring pair
abbrev pub neighbours : {A B : Type 0} → (A → A → B) → List A → List B
neighbours f [] = []
neighbours f (a ∷ []) = []
neighbours f (a ∷ b ∷ rest) = f a b ∷ neighbours f (b ∷ rest)

-- f of each pair, the first element with each later one first
abbrev pub pairs : {A B : Type 0} → (A → A → B) → List A → List B
pairs f [] = []
pairs f (a ∷ rest) = map (f a) rest ++ pairs f rest

-- from the left
abbrev pub from_left : {A : Type 0} → (A → A → A) → A → List A → A
from_left f a [] = a
from_left f a (b ∷ rest) = from_left f (f a b) rest

abbrev pub first_and_rest : {A : Type 0} → (A → A → A) → A → List A → A
first_and_rest f missing [] = missing
first_and_rest f missing (a ∷ rest) = from_left f a rest

-- ---- Real `ite`: what is said of it is said of each arm, under its condition

-- what f makes of each arm
abbrev pub lift_value : (Fraction → Value) → Value → Value
lift_value f (either c a b) = either c (lift_value f a) (lift_value f b)
lift_value f v = f (fraction_of v)

-- a step of two values, the arms of the first one first
abbrev pub step_values : (Fraction → Fraction → Fraction) → Value → Value → Value
step_values f v w = lift_value (λ p. lift_value (λ q. real (f p q)) w) v

-- what f says of a value is the Bool `ite` of what it says of the arms
abbrev pub lift_pair : (Fraction → Pair) → Value → Pair
lift_pair f (either c a b) = choice_pair c (lift_pair f a) (lift_pair f b)
lift_pair f v = f (fraction_of v)

-- a comparison of two values, the arms of the first one first
abbrev pub compare_values : (Fraction → Fraction → Pair) → Value → Value → Pair
compare_values f v w = lift_pair (λ p. lift_pair (λ q. f p q) w) v

abbrev pub differing_values : Fraction → Value → Value → Pair
differing_values m v w = not_pair (compare_values (equal_pair m) v w)

-- of one argument the opposite
abbrev pub subtract_values : List Value → Value
subtract_values [] = real zero_fraction
subtract_values (a ∷ []) = lift_value (λ q. real (negated q)) a
subtract_values (a ∷ b ∷ rest) = from_left (step_values difference_of) a (b ∷ rest)

-- = and distinct, by the sort of the first argument
abbrev pub equality_of : Fraction → List Value → Pair
equality_of m (bool t ∷ rest) = all_pair (neighbours (λ a b. not_pair (xor_pair a b)) (map pair_of (bool t ∷ rest)))
equality_of m args = all_pair (neighbours (compare_values (equal_pair m)) args)

abbrev pub distinctness_of : Fraction → List Value → Pair
distinctness_of m (bool t ∷ rest) = all_pair (pairs xor_pair (map pair_of (bool t ∷ rest)))
distinctness_of m args = all_pair (pairs (differing_values m) args)

-- `ite`, by the sort of its first arm
abbrev pub choice_value : Pair → Value → Value → Value
choice_value c (bool a) b = bool (choice_pair c a (pair_of b))
choice_value c a b = either c a b

abbrev pub choice_of : List Value → Value
choice_of (c ∷ a ∷ b ∷ _) = choice_value (pair_of c) a b
choice_of _ = bool true_pair

abbrev pub negation_of : List Pair → Pair
negation_of (a ∷ _) = not_pair a
negation_of [] = true_pair

-- a theory operator at its arguments
abbrev pub operation : Fraction → Operator → List Value → Value
operation m truth args = bool true_pair
operation m falsehood args = bool (not_pair true_pair)
operation m negation args = bool (negation_of (map pair_of args))
operation m conjunction args = bool (all_pair (map pair_of args))
operation m disjunction args = bool (any_pair (map pair_of args))
operation m implication args = bool (implies_pair (map pair_of args))
operation m exclusive args = bool (first_and_rest xor_pair true_pair (map pair_of args))
operation m equality args = bool (equality_of m args)
operation m distinctness args = bool (distinctness_of m args)
operation m choice args = choice_of args
operation m minus args = subtract_values args
operation m plus args = first_and_rest (step_values sum_of) (real zero_fraction) args
operation m times args = first_and_rest (step_values product_of) (real zero_fraction) args
operation m divide args = first_and_rest (step_values quotient_of) (real zero_fraction) args
operation m at_most_op args = bool (all_pair (neighbours (compare_values (at_most_pair m)) args))
operation m below_op args = bool (all_pair (neighbours (compare_values (at_most_pair m)) args))
operation m at_least_op args = bool (all_pair (neighbours (compare_values (at_least_pair m)) args))
operation m above_op args = bool (all_pair (neighbours (compare_values (at_least_pair m)) args))

-- SMT-LIB 2.6, theories Core and Reals; each comparison is loosened by m (Gao, Avigad, Clarke 2012)
abbrev pub loosened : Fraction → Meanings Value
loosened m = record {
  literal = λ at q. real q;
  named = λ at v. v;
  apply = λ at op args. operation m op args;
  annotated = λ at v. v;
  bind = λ at names vs v. v;
  call = λ at vs v. v;
  nothing = λ at why. real zero_fraction;
}

-- what an expression stands for, loosened by m, where the names stand for these
abbrev pub value_of : Fraction → Names Value → Sexp → Value
value_of m names e = meaning (loosened m) names e

-- what a declared constant stands for
abbrev pub coordinate_value : Coordinate → Value
coordinate_value (at_fraction q) = real q
coordinate_value (at_bool b) = bool (record { pos = b; neg = not b })

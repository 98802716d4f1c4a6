-- What a script says of a real point as SMT-LIB 2.6 has it (theories Core and Reals): comparisons are those of real
-- numbers, strict ones are strict, and a Real `ite` is the arm that its condition picks.
use Rattle.std.specs.Prelude.{ℕ, ◌≤◌, ◌⊎◌, List, [], ◌∷◌, map, Bool, true, false, IsTrue}
use Rattle.std.specs.List.{AllByRecursion}
use Rattle.dyadic.specs.Fraction.{Fraction, zero_fraction, negated, sum_of, difference_of, product_of, quotient_of, at_most}
use Rattle.script_model.specs.Reading.{Operator, truth, falsehood, negation, conjunction, disjunction, implication, exclusive, equality, distinctness, choice, minus, plus, times, divide, at_most_op, below_op, at_least_op, above_op, Meanings}
use Rattle.script_model.specs.Meaning.{not_above, not_below, neighbours, pairs, from_left, first_and_rest}
use Rattle.script_model.specs.Script.{Command, claims}
use Rattle.real_points.specs.Real.{Sequence, part}
use Rattle.real_points.specs.RealPoint.{RealCoordinate, at_real, at_truth}

-- ---- the order of two numbers, given by the values of terms at the n-th fractions

-- a <= b: for every k, a n is at most b n + 1/(k + 1) for all n from some N on
abbrev pub IsAtMost : Sequence → Sequence → Type 0
IsAtMost a b = (k : ℕ) → (N : ℕ) × ((n : ℕ) → N ≤ n → IsTrue (at_most (a n) (sum_of (b n) (part k))))

-- a < b: for some k, a n + 1/(k + 1) is at most b n for all n from some N on
abbrev pub IsLess : Sequence → Sequence → Type 0
IsLess a b = (k : ℕ) × (N : ℕ) × ((n : ℕ) → N ≤ n → IsTrue (at_most (sum_of (a n) (part k)) (b n)))

-- ---- statements

pub data Relation : Type 0 where
  is_at_most is_less is_at_least is_greater is_equal : Relation

pub data Statement : Type 0 where
  -- `senseless`: of an expression of the other sort, neither true nor false
  yes senseless : Statement
  compares : Relation → Sequence → Sequence → Statement
  -- not, and, xor, and `ite` of Bools
  deny : Statement → Statement
  both differ : Statement → Statement → Statement
  choose : Statement → Statement → Statement → Statement

abbrev pub Comparison : Type 1
Comparison = Relation → Sequence → Sequence → Type 0

-- when each is true, and when it is false
abbrev pub Related : Comparison
Related is_at_most a b = IsAtMost a b
Related is_less a b = IsLess a b
Related is_at_least a b = IsAtMost b a
Related is_greater a b = IsLess b a
Related is_equal a b = IsAtMost a b × IsAtMost b a

abbrev pub Unrelated : Comparison
Unrelated is_at_most a b = IsLess b a
Unrelated is_less a b = IsAtMost b a
Unrelated is_at_least a b = IsLess a b
Unrelated is_greater a b = IsAtMost a b
Unrelated is_equal a b = IsLess a b ⊎ IsLess b a

-- the statement is true, and it is false, where R says when a comparison is true and U when it is false
abbrev mutual
  pub Holds : Comparison → Comparison → Statement → Type 0
  Holds R U yes = Unit {0}
  Holds R U senseless = ⊥
  Holds R U (compares r a b) = R r a b
  Holds R U (deny s) = Fails R U s
  Holds R U (both s t) = Holds R U s × Holds R U t
  Holds R U (differ s t) = (Holds R U s × Fails R U t) ⊎ (Fails R U s × Holds R U t)
  Holds R U (choose c s t) = (Holds R U c × Holds R U s) ⊎ (Fails R U c × Holds R U t)

  pub Fails : Comparison → Comparison → Statement → Type 0
  Fails R U yes = ⊥
  Fails R U senseless = ⊥
  Fails R U (compares r a b) = U r a b
  Fails R U (deny s) = Holds R U s
  Fails R U (both s t) = Fails R U s ⊎ Fails R U t
  Fails R U (differ s t) = (Holds R U s × Holds R U t) ⊎ (Fails R U s × Fails R U t)
  Fails R U (choose c s t) = (Holds R U c × Fails R U s) ⊎ (Fails R U c × Fails R U t)

-- ---- expressions

-- what an expression is, by its sort; a Real `ite` is the one where the statement is true, and the other where it is false
pub data RealValue : Type 0 where
  number : Sequence → RealValue
  statement : Statement → RealValue
  chosen : Statement → RealValue → RealValue → RealValue

-- of a value of the other sort: no accepted script asks
abbrev pub sequence_of : RealValue → Sequence
sequence_of (number a) = a
sequence_of _ = λ n. zero_fraction

abbrev pub statement_of : RealValue → Statement
statement_of (statement s) = s
statement_of _ = senseless

-- what f makes of each arm, and what it says of the one that is picked
abbrev pub each_arm : (Sequence → RealValue) → RealValue → RealValue
each_arm f (chosen c v w) = chosen c (each_arm f v) (each_arm f w)
each_arm f v = f (sequence_of v)

abbrev pub of_arm : (Sequence → Statement) → RealValue → Statement
of_arm f (chosen c v w) = choose c (of_arm f v) (of_arm f w)
of_arm f v = f (sequence_of v)

abbrev pub step : (Fraction → Fraction → Fraction) → RealValue → RealValue → RealValue
step f v w = each_arm (λ a. each_arm (λ b. number (λ n. f (a n) (b n))) w) v

abbrev pub compared : Relation → RealValue → RealValue → Statement
compared r v w = of_arm (λ a. of_arm (λ b. compares r a b) w) v

abbrev pub all_of : List Statement → Statement
all_of [] = yes
all_of (s ∷ rest) = both s (all_of rest)

abbrev pub either_of : Statement → Statement → Statement
either_of s t = deny (both (deny s) (deny t))

abbrev pub any_of : List Statement → Statement
any_of [] = deny yes
any_of (s ∷ rest) = either_of s (any_of rest)

abbrev pub implied : List Statement → Statement
implied [] = yes
implied (s ∷ []) = s
implied (s ∷ t ∷ rest) = either_of (deny s) (implied (t ∷ rest))

abbrev pub first_denied : List Statement → Statement
first_denied [] = yes
first_denied (s ∷ _) = deny s

abbrev pub subtraction : List RealValue → RealValue
subtraction [] = number (λ n. zero_fraction)
subtraction (v ∷ []) = each_arm (λ a. number (λ n. negated (a n))) v
subtraction (v ∷ w ∷ rest) = from_left (step difference_of) v (w ∷ rest)

-- = , distinct and ite, by the sort of the first argument or arm
abbrev pub equal_all : List RealValue → Statement
equal_all (statement s ∷ rest) = all_of (neighbours (λ a b. deny (differ a b)) (map statement_of (statement s ∷ rest)))
equal_all args = all_of (neighbours (compared is_equal) args)

abbrev pub distinct_all : List RealValue → Statement
distinct_all (statement s ∷ rest) = all_of (pairs differ (map statement_of (statement s ∷ rest)))
distinct_all args = all_of (pairs (λ v w. deny (compared is_equal v w)) args)

abbrev pub arm_of : Statement → RealValue → RealValue → RealValue
arm_of c (statement s) w = statement (choose c s (statement_of w))
arm_of c v w = chosen c v w

abbrev pub picked : List RealValue → RealValue
picked (c ∷ v ∷ w ∷ _) = arm_of (statement_of c) v w
picked _ = statement yes

abbrev pub chain : Relation → List RealValue → RealValue
chain r args = statement (all_of (neighbours (compared r) args))

abbrev pub real_operation : Operator → List RealValue → RealValue
real_operation truth args = statement yes
real_operation falsehood args = statement (deny yes)
real_operation negation args = statement (first_denied (map statement_of args))
real_operation conjunction args = statement (all_of (map statement_of args))
real_operation disjunction args = statement (any_of (map statement_of args))
real_operation implication args = statement (implied (map statement_of args))
real_operation exclusive args = statement (first_and_rest differ yes (map statement_of args))
real_operation equality args = statement (equal_all args)
real_operation distinctness args = statement (distinct_all args)
real_operation choice args = picked args
real_operation minus args = subtraction args
real_operation plus args = first_and_rest (step sum_of) (number (λ n. zero_fraction)) args
real_operation times args = first_and_rest (step product_of) (number (λ n. zero_fraction)) args
real_operation divide args = first_and_rest (step quotient_of) (number (λ n. zero_fraction)) args
real_operation at_most_op args = chain is_at_most args
real_operation below_op args = chain is_less args
real_operation at_least_op args = chain is_at_least args
real_operation above_op args = chain is_greater args

abbrev pub over_reals : Meanings RealValue
over_reals = record {
  literal = λ at q. number (λ n. q);
  named = λ at v. v;
  apply = λ at op args. real_operation op args;
  annotated = λ at v. v;
  bind = λ at names vs v. v;
  call = λ at vs v. v;
  nothing = λ at why. number (λ n. zero_fraction);
}

abbrev pub truth_of_bool : Bool → Statement
truth_of_bool true = yes
truth_of_bool false = deny yes

abbrev pub coordinate_of : RealCoordinate → RealValue
coordinate_of (at_real x) = number x
coordinate_of (at_truth b) = statement (truth_of_bool b)

abbrev pub IsTrueStatement : Comparison → Comparison → RealValue → Type 0
IsTrueStatement R U (statement s) = Holds R U s
IsTrueStatement R U _ = ⊥

-- each assertion is true at the real point, where comparisons are true and false so
abbrev pub SatisfiesBy : Comparison → Comparison → List RealCoordinate → List Command → Type 0
SatisfiesBy R U point script = AllByRecursion (IsTrueStatement R U) (claims over_reals [] (map coordinate_of point) script)

-- each assertion is true at the real point
abbrev pub SatisfiesOverReals : List RealCoordinate → List Command → Type 0
SatisfiesOverReals point script = SatisfiesBy Related Unrelated point script

-- ---- the same loosened, each comparison and its negation closed

-- a - b <= m, and a - b >= -m
abbrev pub IsNotAbove : Fraction → Sequence → Sequence → Type 0
IsNotAbove m a b = (k : ℕ) → (N : ℕ) × ((n : ℕ) → N ≤ n → IsTrue (not_above (sum_of m (part k)) (a n) (b n)))

abbrev pub IsNotBelow : Fraction → Sequence → Sequence → Type 0
IsNotBelow m a b = (k : ℕ) → (N : ℕ) × ((n : ℕ) → N ≤ n → IsTrue (not_below (sum_of m (part k)) (a n) (b n)))

abbrev pub LooselyRelated : Fraction → Comparison
LooselyRelated m is_at_most a b = IsNotAbove m a b
LooselyRelated m is_less a b = IsNotAbove m a b
LooselyRelated m is_at_least a b = IsNotBelow m a b
LooselyRelated m is_greater a b = IsNotBelow m a b
LooselyRelated m is_equal a b = IsNotBelow m a b × IsNotAbove m a b

abbrev pub LooselyUnrelated : Fraction → Comparison
LooselyUnrelated m is_at_most a b = IsNotBelow m a b
LooselyUnrelated m is_less a b = IsNotBelow m a b
LooselyUnrelated m is_at_least a b = IsNotAbove m a b
LooselyUnrelated m is_greater a b = IsNotAbove m a b
LooselyUnrelated m is_equal a b = Unit {0}

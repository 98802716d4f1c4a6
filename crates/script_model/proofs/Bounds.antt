-- The declared ends of a script are fractions.
use Rattle.std.proofs.Common.{ℕ, suc, zero, List, [], ◌∷◌, ◌++◌, map, Bool, true, false, cond, Option, Some, None, arith, length, nat_eq, ◌&&◌, ℤ, pos, negsuc, mul-pos}
use native.Mathlib.Nat.{one-le-pow}
use Rattle.std.specs.List.{AllByRecursion}
use Rattle.dyadic.specs.Fraction.{Fraction, IsFraction, zero_fraction, negated, sum_of, difference_of, product_of, quotient_of, over, at_most}
use Rattle.dyadic.specs.Point.{Sort, real_sort, bool_sort}
use Rattle.script_model.specs.Reading.{Operator, conjunction, equality, choice, minus, plus, times, divide, at_most_op, below_op, at_least_op, above_op}
use Rattle.script_model.specs.Meaning.{Pair, Value, real, bool, either, fraction_of, operation, neighbours, from_left, first_and_rest, lift_value, step_values, subtract_values}
use Rattle.script_model.specs.Exact.{subtraction}
use Rattle.script_model.specs.Script.{Command, sorts_of}
use Rattle.script_model.specs.Declared.{Side, lower, upper, Bound, Bounding, known, constant_of, other, bounds, at_most_bounds, at_least_bounds, equal_bounds, concat, bounds_in, with_first, all_known, computed, alone, bounding_operation, bounding, constant_bounding, numbered, script_bounds, is_side, values_on, greatest, least, tightest_end, default_low, default_high, declared_interval, arm_bounding, choice_bounding}
use Rattle.script_model.proofs.Related.{Each, Respects, claims_alike, Nothing, said, silent}

abbrev pub AreFractions : List Fraction → Type 0
AreFractions qs = AllByRecursion IsFraction qs

abbrev pub GoodBounds : List Bound → Type 0
GoodBounds bs = AllByRecursion (λ (b : Bound). IsFraction b.value) bs

abbrev pub IsGood : Bounding → Type 0
IsGood (known q) = IsFraction q
IsGood (bounds bs) = GoodBounds bs
IsGood _ = Unit {0}

abbrev pub EachGood : List Bounding → Type 0
EachGood bs = AllByRecursion IsGood bs

join : (xs ys : List Bound) → GoodBounds xs → GoodBounds ys → GoodBounds (xs ++ ys)
join [] ys h k = k
join (x ∷ xs) ys h k = (h.0, join xs ys h.1 k)

at-most-good : (a b : Bounding) → IsGood a → IsGood b → GoodBounds (at_most_bounds a b)
at-most-good (constant_of i) (known q) h k = (k, tt)
at-most-good (known q) (constant_of i) h k = (h, tt)
at-most-good _ _ h k = tt

at-least-good : (a b : Bounding) → IsGood a → IsGood b → GoodBounds (at_least_bounds a b)
at-least-good a b h k = at-most-good b a k h

equal-good : (a b : Bounding) → IsGood a → IsGood b → GoodBounds (equal_bounds a b)
equal-good a b h k = join (at_most_bounds a b) (at_most_bounds b a) (at-most-good a b h k) (at-most-good b a k h)

in-good : (b : Bounding) → IsGood b → GoodBounds (bounds_in b)
in-good (bounds bs) h = h
in-good (known q) h = tt
in-good (constant_of i) h = tt
in-good other h = tt

concat-in-good : (bs : List Bounding) → EachGood bs → GoodBounds (concat (map bounds_in bs))
concat-in-good [] h = tt
concat-in-good (b ∷ bs) h = join (bounds_in b) (concat (map bounds_in bs)) (in-good b h.0) (concat-in-good bs h.1)

chain-good : (f : Bounding → Bounding → List Bound) → ((a b : Bounding) → IsGood a → IsGood b → GoodBounds (f a b)) → (bs : List Bounding) → EachGood bs → GoodBounds (concat (neighbours f bs))
chain-good f g [] h = tt
chain-good f g (a ∷ []) h = tt
chain-good f g (a ∷ b ∷ bs) h = join (f a b) (concat (neighbours f (b ∷ bs))) (g a b h.0 h.1.0) (chain-good f g (b ∷ bs) h.1)

-- ---- values of constant expressions

pub negated_is : (q : Fraction) → IsFraction q → IsFraction (negated q)
unfolding negated
negated_is q h = h

pub sum_is : (p q : Fraction) → IsFraction p → IsFraction q → IsFraction (sum_of p q)
unfolding sum_of
sum_is p q h k = mul-pos h k

pub difference_is : (p q : Fraction) → IsFraction p → IsFraction q → IsFraction (difference_of p q)
difference_is p q h k = sum_is p (negated q) h (negated_is q k)

pub product_is : (p q : Fraction) → IsFraction p → IsFraction q → IsFraction (product_of p q)
unfolding product_of
product_is p q h k = mul-pos h k

over-is : (a : Fraction) (n : ℤ) (d : ℕ) → IsFraction a → IsFraction (over a n d)
over-is a (pos zero) d h = omega arith
over-is a (pos (suc n)) d h = mul-pos h (omega arith)
over-is a (negsuc n) d h = mul-pos h (omega arith)

pub quotient_is : (p q : Fraction) → IsFraction p → IsFraction q → IsFraction (quotient_of p q)
unfolding quotient_of
quotient_is p q h k = over-is p q.num q.den h

abbrev pub Keeps : (Fraction → Fraction → Fraction) → Type 0
Keeps f = (p q : Fraction) → IsFraction p → IsFraction q → IsFraction (f p q)

from-left-is : (f : Fraction → Fraction → Fraction) → Keeps f → (q : Fraction) (qs : List Fraction) → IsFraction q → AreFractions qs → IsFraction (from_left f q qs)
from-left-is f g q [] h k = h
from-left-is f g q (r ∷ qs) h k = from-left-is f g (f q r) qs (g q r h k.0) k.1

pub first_and_rest_is : (f : Fraction → Fraction → Fraction) → Keeps f → (qs : List Fraction) → AreFractions qs → IsFraction (first_and_rest f zero_fraction qs)
first_and_rest_is f g [] h = omega arith
first_and_rest_is f g (q ∷ qs) h = from-left-is f g q qs h.0 h.1

pub subtraction_is : (qs : List Fraction) → AreFractions qs → IsFraction (subtraction qs)
subtraction_is [] h = omega arith
subtraction_is (q ∷ []) h = negated_is q h.0
subtraction_is (q ∷ r ∷ qs) h = from-left-is difference_of difference_is (difference_of q r) qs (difference_is q r h.0 h.1.0) h.1.1

-- all that a value may be are fractions
abbrev pub IsGoodValue : Value → Type 0
IsGoodValue (real q) = IsFraction q
IsGoodValue (bool t) = Unit {0}
IsGoodValue (either c a b) = IsGoodValue a × IsGoodValue b

abbrev pub AreGoodValues : List Value → Type 0
AreGoodValues vs = AllByRecursion IsGoodValue vs

value-is : (v : Value) → IsGoodValue v → IsFraction (fraction_of v)
value-is (real q) h = h
value-is (bool t) h = omega arith
value-is (either c a b) h = omega arith

lift-good : (f : Fraction → Value) → ((q : Fraction) → IsFraction q → IsGoodValue (f q)) → (v : Value) → IsGoodValue v → IsGoodValue (lift_value f v)
lift-good f g (either c a b) h = (lift-good f g a h.0, lift-good f g b h.1)
lift-good f g (real q) h = g q h
lift-good f g (bool t) h = g zero_fraction (omega arith)

step-good : (f : Fraction → Fraction → Fraction) → Keeps f → (v w : Value) → IsGoodValue v → IsGoodValue w → IsGoodValue (step_values f v w)
step-good f g v w h k = lift-good (λ p. lift_value (λ q. real (f p q)) w) (λ p i. lift-good (λ q. real (f p q)) (λ q j. g p q i j) w k) v h

steps-good : (f : Fraction → Fraction → Fraction) → Keeps f → (v : Value) (vs : List Value) → IsGoodValue v → AreGoodValues vs → IsGoodValue (from_left (step_values f) v vs)
steps-good f g v [] h k = h
steps-good f g v (w ∷ vs) h k = steps-good f g (step_values f v w) vs (step-good f g v w h k.0) k.1

all-steps-good : (f : Fraction → Fraction → Fraction) → Keeps f → (vs : List Value) → AreGoodValues vs → IsFraction (fraction_of (first_and_rest (step_values f) (real zero_fraction) vs))
all-steps-good f g [] h = omega arith
all-steps-good f g (v ∷ vs) h = value-is (from_left (step_values f) v vs) (steps-good f g v vs h.0 h.1)

subtract-good : (vs : List Value) → AreGoodValues vs → IsFraction (fraction_of (subtract_values vs))
subtract-good [] h = omega arith
subtract-good (v ∷ []) h = value-is (lift_value (λ q. real (negated q)) v) (lift-good (λ q. real (negated q)) (λ q i. negated_is q i) v h.0)
subtract-good (v ∷ w ∷ vs) h = value-is (from_left (step_values difference_of) v (w ∷ vs)) (steps-good difference_of difference_is v (w ∷ vs) h.0 h.1)

abbrev IfKnown : Option (List Value) → Type 0
IfKnown None = Unit {0}
IfKnown (Some vs) = AreGoodValues vs

known-first : (q : Fraction) (o : Option (List Value)) → IsFraction q → IfKnown o → IfKnown (with_first q o)
known-first q None h k = tt
known-first q (Some vs) h k = (h, k)

all-known-is : (bs : List Bounding) → EachGood bs → IfKnown (all_known bs)
all-known-is [] h = tt
all-known-is (known q ∷ bs) h = known-first q (all_known bs) h.0 (all-known-is bs h.1)
all-known-is (_ ∷ bs) h = tt

abbrev Gives : Operator → Type 0
Gives op = (vs : List Value) → AreGoodValues vs → IsFraction (fraction_of (operation zero_fraction op vs))

computed-good : (op : Operator) → Gives op → (o : Option (List Value)) → IfKnown o → IsGood (computed op o)
computed-good op g None h = tt
computed-good op g (Some vs) h = g vs h

alone-good : (op : Operator) → Gives op → (bs : List Bounding) → EachGood bs → IsGood (alone op bs)
alone-good op g [] h = g [] tt
alone-good op g (b ∷ []) h = h.0
alone-good op g (b ∷ c ∷ bs) h = computed-good op g (all_known (b ∷ c ∷ bs)) (all-known-is (b ∷ c ∷ bs) h)

arm-good : (b : Bounding) → IsGood (arm_bounding b)
arm-good (bounds bs) = tt
arm-good (known q) = tt
arm-good (constant_of i) = tt
arm-good other = tt

choice-good : (bs : List Bounding) → IsGood (choice_bounding bs)
choice-good [] = tt
choice-good (c ∷ []) = tt
choice-good (c ∷ a ∷ []) = tt
choice-good (c ∷ a ∷ b ∷ rest) = arm-good a

operation-good : (op : Operator) (bs : List Bounding) → EachGood bs → IsGood (bounding_operation op bs)
operation-good conjunction bs h = concat-in-good bs h
operation-good at_most_op bs h = chain-good at_most_bounds at-most-good bs h
operation-good below_op bs h = chain-good at_most_bounds at-most-good bs h
operation-good at_least_op bs h = chain-good at_least_bounds at-least-good bs h
operation-good above_op bs h = chain-good at_least_bounds at-least-good bs h
operation-good equality bs h = chain-good equal_bounds equal-good bs h
operation-good choice bs h = choice-good bs
operation-good plus bs h = alone-good plus (all-steps-good sum_of sum_is) bs h
operation-good times bs h = alone-good times (all-steps-good product_of product_is) bs h
operation-good minus bs h = computed-good minus subtract-good (all_known bs) (all-known-is bs h)
operation-good divide bs h = computed-good divide (all-steps-good quotient_of quotient_is) (all_known bs) (all-known-is bs h)
operation-good op bs h = tt

abbrev Good : Nothing → Bounding → Type 0
Good v b = IsGood b

each-good : (vs : List Nothing) (bs : List Bounding) → Each Good vs bs → EachGood bs
each-good [] [] h = tt
each-good (v ∷ vs) (b ∷ bs) h = (h.0, each-good vs bs h.1)
each-good [] (b ∷ bs) h = elim h [ ]
each-good (v ∷ vs) [] h = elim h [ ]

good_respects : Respects Good silent bounding
good_respects = record {
  literal = λ at digits more_digits. one-le-pow (length more_digits) 10 (omega arith);
  named = λ at v b h. h;
  annotated = λ at v b h. h;
  apply = λ at op vs bs h. operation-good op bs (each-good vs bs h);
  bind = λ at names vs bs v b h k. k;
  call = λ at vs bs v b h k. k;
  nothing = λ at why. tt;
}

-- ---- the bounds and ends of a script

constants-good : (n : ℕ) (sorts : List Sort) → Each Good (map (λ s. said) sorts) (numbered constant_bounding n sorts)
constants-good n [] = tt
constants-good n (real_sort ∷ sorts) = (tt, constants-good (suc n) sorts)
constants-good n (bool_sort ∷ sorts) = (tt, constants-good (suc n) sorts)

pub bounds_good : (script : List Command) → GoodBounds (script_bounds script)
bounds_good script = concat-in-good _ (each-good _ _
    (claims_alike Good silent bounding good_respects [] [] tt (map (λ s. said) (sorts_of script)) (numbered constant_bounding 0 (sorts_of script)) (constants-good 0 (sorts_of script)) script))

kept : (b : Bool) (q : Fraction) (qs : List Fraction) → IsFraction q → AreFractions qs → AreFractions (cond b (q ∷ []) [] ++ qs)
kept true q qs h k = (h, k)
kept false q qs h k = k

values-good : (s : Side) (axis : ℕ) (bs : List Bound) → GoodBounds bs → AreFractions (values_on s axis bs)
values-good s axis [] h = tt
values-good s axis (b ∷ bs) h = kept (is_side s b.side && nat_eq axis b.axis) b.value (values_on s axis bs) h.0 (values-good s axis bs h.1)

choose : (b : Bool) (p q : Fraction) → IsFraction p → IsFraction q → IsFraction (cond b p q)
choose true p q h k = h
choose false p q h k = k

greatest-is : (q : Fraction) (qs : List Fraction) → IsFraction q → AreFractions qs → IsFraction (greatest q qs)
greatest-is q [] h k = h
greatest-is q (r ∷ qs) h k = greatest-is (cond (at_most q r) r q) qs (choose (at_most q r) r q k.0 h) k.1

least-is : (q : Fraction) (qs : List Fraction) → IsFraction q → AreFractions qs → IsFraction (least q qs)
least-is q [] h k = h
least-is q (r ∷ qs) h k = least-is (cond (at_most r q) r q) qs (choose (at_most r q) r q k.0 h) k.1

abbrev pub IfFraction : Option Fraction → Type 0
IfFraction None = Unit {0}
IfFraction (Some q) = IsFraction q

end-is : (tightest : Fraction → List Fraction → Fraction) → ((q : Fraction) (qs : List Fraction) → IsFraction q → AreFractions qs → IsFraction (tightest q qs)) →
    (default : Option Fraction) → IfFraction default → (qs : List Fraction) → AreFractions qs → IfFraction (tightest_end tightest default qs)
end-is tightest g default d [] h = d
end-is tightest g default d (q ∷ qs) h = g q qs h.0 h.1

low-is : (bound : Option ℕ) → IfFraction (default_low bound)
low-is None = tt
low-is (Some n) = omega arith

high-is : (bound : Option ℕ) → IfFraction (default_high bound)
high-is None = tt
high-is (Some n) = omega arith

pub ends_are_fractions : (bound : Option ℕ) (script : List Command) (axis : ℕ) →
    IfFraction (declared_interval bound script axis).low × IfFraction (declared_interval bound script axis).high
ends_are_fractions bound script axis = (
  end-is greatest greatest-is (default_low bound) (low-is bound) (values_on lower axis (script_bounds script)) (values-good lower axis (script_bounds script) (bounds_good script)),
  end-is least least-is (default_high bound) (high-is bound) (values_on upper axis (script_bounds script)) (values-good upper axis (script_bounds script) (bounds_good script)),
)

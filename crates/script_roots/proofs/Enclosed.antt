-- The value of a tree lies in its interval.
use Rattle.std.proofs.Common.{◌≡◌, ℕ, List, [], ◌∷◌, Bool, true, false, cond, ◌||◌, Option, Some, None, refl, sym, subst, arith, length, bytes_eq, true≢false}
use native.Mathlib.Nat.{one-le-pow}
use Rattle.dyadic.specs.Fraction.{Fraction, IsFraction, zero_fraction, sum_of, negated, difference_of, product_of, quotient_of}
use Rattle.dyadic.specs.Rounding.{down, up}
use Rattle.interval_model.specs.Interval.{Interval, between, everything, IsKept, interval_sum, interval_negated, interval_product}
use Rattle.interval_model.proofs.Ends.{zero_is_good, product_is_good}
use Rattle.interval_model.proofs.EndsSums.{sum_is_good, negated_is_good}
use Rattle.interval_model.proofs.Holds.{Holds, everything_holds, sum_holds, negated_holds, product_holds, rounded_fraction_holds}
use Rattle.interval_model.proofs.HoldsGrid.{everything_kept, fraction_kept, sum_kept, negated_kept, product_kept}
use Rattle.interval_model.proofs.InversesEnds.{quotient_is_good}
use Rattle.script_model.specs.Sexp.{Place, Leaf, numeral, decimal, symbol}
use Rattle.script_model.specs.Reading.{Operator, truth, falsehood, negation, conjunction, disjunction, implication, exclusive, equality, distinctness, choice, minus, plus, times, divide, at_most_op, below_op, at_least_op, above_op, operators, found, literal_value, Names, Named, value, function, application, leaf_meaning, name_meaning, value_named, bare_named, call_named}
use Rattle.script_model.specs.Meaning.{Pair, Value, real, bool, either, fraction_of, lift_value, step_values, subtract_values, from_left, first_and_rest, operation, loosened}
use Rattle.script_roots.specs.Tree.{Tree, atomic, applied, root, quotient, formless, Trees, no_trees, more_trees, is_choice, holds_choice, hold_choice}
use Rattle.script_roots.specs.Ranges.{Ranges, root_range, quotient_range, difference_range, minus_range, operator_range, symbol_range, leaf_range, or_everything, enclosed, all_enclosed}
use Rattle.script_roots.specs.Laws.{tree_meaning, trees_meaning, IsRootAt}
use Rattle.script_roots.proofs.Operations.{quotient_holds, quotient_kept, root_holds, root_kept}

-- ---- values that lie in an interval

-- no Real `ite`
abbrev pub IsPlain : Value → Type 0
IsPlain (either c a b) = ⊥
IsPlain _ = Unit {0}

-- the value is a fraction of the interval, whose ends are kept; a Bool one stands for 0
pub record Within (i : Interval) (v : Value) : Type 0 where
  pub plain : IsPlain v
  pub fraction : IsFraction (fraction_of v)
  pub inside : Holds i (fraction_of v)
  pub kept : IsKept i

abbrev pub EachWithin : List Interval → List Value → Type 0
EachWithin [] [] = Unit {0}
EachWithin (i ∷ is) (v ∷ vs) = Within i v × EachWithin is vs
EachWithin _ _ = ⊥

anywhere : (v : Value) → IsPlain v → IsFraction (fraction_of v) → Within everything v
anywhere v p f = record { plain = p; fraction = f; inside = everything_holds (fraction_of v); kept = everything_kept }

pub truth_anywhere : (t : Pair) → Within everything (bool t)
truth_anywhere t = anywhere (bool t) tt zero_is_good

zero-anywhere : Within everything (real zero_fraction)
zero-anywhere = anywhere (real zero_fraction) tt zero_is_good

-- ---- operators

-- a step of two values without an `ite` is that of their fractions
pub step_real : (f : Fraction → Fraction → Fraction) (v w : Value) → IsPlain v → IsPlain w → step_values f v w ≡ real (f (fraction_of v) (fraction_of w))
step_real f (real p) (real q) h k = refl
step_real f (real p) (bool t) h k = refl
step_real f (bool t) (real q) h k = refl
step_real f (bool t) (bool u) h k = refl
step_real f (either c a b) w h k = elim h [ ]
step_real f (real p) (either c a b) h k = elim k [ ]
step_real f (bool t) (either c a b) h k = elim k [ ]

negated-real : (v : Value) → IsPlain v → lift_value (λ q. real (negated q)) v ≡ real (negated (fraction_of v))
negated-real (real p) h = refl
negated-real (bool t) h = refl
negated-real (either c a b) h = elim h [ ]

abbrev Follows : (Interval → Interval → Interval) → (Fraction → Fraction → Fraction) → Type 0
Follows F f = (i j : Interval) (v w : Value) → Within i v → Within j w → Within (F i j) (step_values f v w)

step-within : (f : Fraction → Fraction → Fraction) (i : Interval) (v w : Value) → IsPlain v → IsPlain w → IsFraction (f (fraction_of v) (fraction_of w)) → Holds i (f (fraction_of v) (fraction_of w)) → IsKept i →
    Within i (step_values f v w)
step-within f i v w p q g h k = subst (Within i) (sym (step_real f v w p q)) (record { plain = tt; fraction = g; inside = h; kept = k })

sum-within : Follows interval_sum sum_of
sum-within i j v w h k = step-within sum_of (interval_sum i j) v w h.plain k.plain (sum_is_good (fraction_of v) (fraction_of w) h.fraction k.fraction)
    (sum_holds i j (fraction_of v) (fraction_of w) h.inside k.inside) (sum_kept i j)

difference-within : Follows difference_range difference_of
difference-within i j v w h k =
    let n = negated_is_good (fraction_of w) k.fraction in
    step-within difference_of (difference_range i j) v w h.plain k.plain (sum_is_good (fraction_of v) (negated (fraction_of w)) h.fraction n)
    (sum_holds i (interval_negated j) (fraction_of v) (negated (fraction_of w)) h.inside (negated_holds j (fraction_of w) k.inside)) (sum_kept i (interval_negated j))

product-within : Follows interval_product product_of
product-within i j v w h k = step-within product_of (interval_product i j) v w h.plain k.plain (product_is_good (fraction_of v) (fraction_of w) h.fraction k.fraction)
    (product_holds i j (fraction_of v) (fraction_of w) h.fraction k.fraction h.inside k.inside) (product_kept i j)

quotient-within : Follows quotient_range quotient_of
quotient-within i j v w h k = step-within quotient_of (quotient_range i j) v w h.plain k.plain (quotient_is_good (fraction_of v) (fraction_of w) h.fraction)
    (quotient_holds i j (fraction_of v) (fraction_of w) h.fraction k.fraction h.inside k.inside) (quotient_kept i j)

from-left-within : (F : Interval → Interval → Interval) (f : Fraction → Fraction → Fraction) → Follows F f → (i : Interval) (v : Value) (is : List Interval) (vs : List Value) → Within i v → EachWithin is vs →
    Within (from_left F i is) (from_left (step_values f) v vs)
from-left-within F f g i v [] [] h k = h
from-left-within F f g i v (j ∷ is) (w ∷ vs) h k = from-left-within F f g (F i j) (step_values f v w) is vs (g i j v w h k.0) k.1
from-left-within F f g i v [] (w ∷ vs) h k = elim k [ ]
from-left-within F f g i v (j ∷ is) [] h k = elim k [ ]

steps-within : (F : Interval → Interval → Interval) (f : Fraction → Fraction → Fraction) → Follows F f → (is : List Interval) (vs : List Value) → EachWithin is vs →
    Within (first_and_rest F everything is) (first_and_rest (step_values f) (real zero_fraction) vs)
steps-within F f g [] [] h = zero-anywhere
steps-within F f g (i ∷ is) (v ∷ vs) h = from-left-within F f g i v is vs h.0 h.1
steps-within F f g [] (v ∷ vs) h = elim h [ ]
steps-within F f g (i ∷ is) [] h = elim h [ ]

minus-within : (is : List Interval) (vs : List Value) → EachWithin is vs → Within (minus_range is) (subtract_values vs)
minus-within [] [] h = zero-anywhere
minus-within (i ∷ []) (v ∷ []) h = subst (Within (interval_negated i)) (sym (negated-real v h.0.plain)) (record {
  plain = tt;
  fraction = negated_is_good (fraction_of v) h.0.fraction;
  inside = negated_holds i (fraction_of v) h.0.inside;
  kept = negated_kept i h.0.kept;
})
minus-within (i ∷ j ∷ is) (v ∷ w ∷ vs) h = from-left-within difference_range difference_of difference-within i v (j ∷ is) (w ∷ vs) h.0 h.1
minus-within [] (v ∷ vs) h = elim h [ ]
minus-within (i ∷ is) [] h = elim h [ ]
minus-within (i ∷ []) (v ∷ w ∷ vs) h = elim h.1 [ ]
minus-within (i ∷ j ∷ is) (v ∷ []) h = elim h.1 [ ]

pub operator_within : (op : Operator) (is : List Interval) (vs : List Value) → is_choice (Some op) ≡ false → EachWithin is vs → Within (operator_range (Some op) is) (operation zero_fraction op vs)
operator_within plus is vs n h = steps-within interval_sum sum_of sum-within is vs h
operator_within minus is vs n h = minus-within is vs h
operator_within times is vs n h = steps-within interval_product product_of product-within is vs h
operator_within divide is vs n h = steps-within quotient_range quotient_of quotient-within is vs h
operator_within choice is vs n h = absurd (true≢false n)
operator_within truth is vs n h = truth_anywhere _
operator_within falsehood is vs n h = truth_anywhere _
operator_within negation is vs n h = truth_anywhere _
operator_within conjunction is vs n h = truth_anywhere _
operator_within disjunction is vs n h = truth_anywhere _
operator_within implication is vs n h = truth_anywhere _
operator_within exclusive is vs n h = truth_anywhere _
operator_within equality is vs n h = truth_anywhere _
operator_within distinctness is vs n h = truth_anywhere _
operator_within at_most_op is vs n h = truth_anywhere _
operator_within below_op is vs n h = truth_anywhere _
operator_within at_least_op is vs n h = truth_anywhere _
operator_within above_op is vs n h = truth_anywhere _

-- an operator alone, and one in parentheses without arguments
alone-within : (op : Operator) → Within everything (operation zero_fraction op [])
alone-within plus = zero-anywhere
alone-within minus = zero-anywhere
alone-within times = zero-anywhere
alone-within divide = zero-anywhere
alone-within _ = truth_anywhere _

no-arguments : (op : Operator) → operator_range (Some op) [] ≡ everything
no-arguments plus = refl
no-arguments minus = refl
no-arguments times = refl
no-arguments divide = refl
no-arguments _ = refl

-- ---- names

abbrev NamedWithin : Interval → Named Value → Type 0
NamedWithin i (value v) = Within i v
NamedWithin i (function f) = ⊥

-- the same names, each with a value of its interval
abbrev pub InRanges : Ranges → Names Value → Type 0
InRanges [] [] = Unit {0}
InRanges (r ∷ ranges) (n ∷ names) = (r.0 ≡ n.0) × NamedWithin r.1 n.1 × InRanges ranges names
InRanges _ _ = ⊥

abbrev FoundWithin : Option Interval → Option (Named Value) → Type 0
FoundWithin None None = Unit {0}
FoundWithin (Some i) (Some n) = NamedWithin i n
FoundWithin _ _ = ⊥

found-step : (b : Bool) (i : Interval) (n : Named Value) (x : Option Interval) (y : Option (Named Value)) → NamedWithin i n → FoundWithin x y → FoundWithin (cond b (Some i) x) (cond b (Some n) y)
found-step true i n x y h k = h
found-step false i n x y h k = k

found-within : (name : List ℕ) (ranges : Ranges) (names : Names Value) → InRanges ranges names → FoundWithin (found name ranges) (found name names)
found-within name [] [] h = tt
found-within name (r ∷ ranges) (n ∷ names) h = rw (← h.0) (found-step (bytes_eq name r.0) r.1 n.1 (found name ranges) (found name names) h.1 (found-within name ranges names h.2))
found-within name [] (n ∷ names) h = elim h [ ]
found-within name (r ∷ ranges) [] h = elim h [ ]

value-within : (at : Place) (name : List ℕ) (x : Option Interval) (y : Option (Named Value)) → FoundWithin x y → Within (or_everything x) (value_named (loosened zero_fraction) at name y)
value-within at name None None h = zero-anywhere
value-within at name (Some i) (Some (value v)) h = h
value-within at name (Some i) (Some (function f)) h = elim h [ ]
value-within at name None (Some n) h = elim h [ ]
value-within at name (Some i) None h = elim h [ ]

bare-within : (at : Place) (name : List ℕ) (y : Option (Named Value)) → Within everything (bare_named (loosened zero_fraction) at name y)
bare-within at name None = zero-anywhere
bare-within at name (Some n) = zero-anywhere

call-within : (at : Place) (name : List ℕ) (x : Option Interval) (y : Option (Named Value)) (vs : List Value) → FoundWithin x y → Within everything (call_named (loosened zero_fraction) at name y vs)
call-within at name None None vs h = zero-anywhere
call-within at name (Some i) (Some (value v)) vs h = zero-anywhere
call-within at name (Some i) (Some (function f)) vs h = elim h [ ]
call-within at name None (Some n) vs h = elim h [ ]
call-within at name (Some i) None vs h = elim h [ ]

pub literal_within : (digits decimals : List ℕ) → Within (between (down (literal_value digits decimals)) (up (literal_value digits decimals))) (real (literal_value digits decimals))
literal_within digits decimals =
    let f : IsFraction (literal_value digits decimals) = one-le-pow (length decimals) 10 (omega arith) in
    record { plain = tt; fraction = f; inside = rounded_fraction_holds (literal_value digits decimals) f; kept = fraction_kept (literal_value digits decimals) f }

-- ---- trees

split-or : (x y : Bool) → x || y ≡ false → (x ≡ false) × (y ≡ false)
split-or false y h = (refl, h)
split-or true y h = absurd (true≢false h)

-- `sqrt` gives what f gives
abbrev pub root_of : (Fraction → Fraction) → Value → Value
root_of f v = real (f (fraction_of v))

-- what a tree stands for at a point, where f gives the roots
abbrev pub tree_value : (Fraction → Fraction) → Names Value → Tree → Value
tree_value f names t = tree_meaning (loosened zero_fraction) (root_of f) names t

abbrev mutual
  -- f gives the root of each argument in the tree
  pub RootsHold : (Fraction → Fraction) → Names Value → Tree → Type 0
  RootsHold f names (atomic at l) = Unit {0}
  RootsHold f names (applied at name ts) = AllRootsHold f names ts
  RootsHold f names (root at t) = RootsHold f names t × IsRootAt f (fraction_of (tree_value f names t))
  RootsHold f names (quotient at t d) = RootsHold f names t × RootsHold f names d
  RootsHold f names (formless at) = Unit {0}

  pub AllRootsHold : (Fraction → Fraction) → Names Value → Trees → Type 0
  AllRootsHold f names no_trees = Unit {0}
  AllRootsHold f names (more_trees t ts) = RootsHold f names t × AllRootsHold f names ts

module _ (ranges : Ranges) (names : Names Value) (f : Fraction → Fraction) (known : InRanges ranges names) where
  symbol-within : (at : Place) (name : List ℕ) (op : Option Operator) → Within (symbol_range op (found name ranges)) (name_meaning (loosened zero_fraction) names at name op)
  symbol-within at name (Some op) = alone-within op
  symbol-within at name None = value-within at name (found name ranges) (found name names) (found-within name ranges names known)

  leaf-within : (at : Place) (l : Leaf) → Within (leaf_range ranges l) (leaf_meaning (loosened zero_fraction) names at l)
  leaf-within at (numeral digits) = literal_within digits []
  leaf-within at (decimal digits decimals) = literal_within digits decimals
  leaf-within at (symbol name) = symbol-within at name (found name operators)
  leaf-within at _ = zero-anywhere

  application-within : (at : Place) (name : List ℕ) (op : Option Operator) (is : List Interval) (vs : List Value) → is_choice op ≡ false → EachWithin is vs →
      Within (operator_range op is) (application (loosened zero_fraction) names at name op vs)
  application-within at name (Some op) [] [] n h = subst (λ (i : Interval). Within i (real zero_fraction)) (sym (no-arguments op)) zero-anywhere
  application-within at name (Some op) (i ∷ is) (v ∷ vs) n h = operator_within op (i ∷ is) (v ∷ vs) n h
  application-within at name None [] [] n h = bare-within at name (found name names)
  application-within at name None (i ∷ is) (v ∷ vs) n h = call-within at name (found name ranges) (found name names) (v ∷ vs) (found-within name ranges names known)
  application-within at name op [] (v ∷ vs) n h = elim h [ ]
  application-within at name op (i ∷ is) [] n h = elim h [ ]

  root-within : (i : Interval) (v : Value) → Within i v → IsRootAt f (fraction_of v) → Within (root_range i) (root_of f v)
  root-within i v h r = record {
    plain = tt;
    fraction = r.fraction;
    inside = root_holds i (f (fraction_of v)) (fraction_of v) h.fraction (record { fraction = r.fraction; not_minus = r.not_negative; square_below = r.not_above }) h.kept h.inside;
    kept = root_kept i h.kept;
  }

  mutual
    -- the value of a tree without an `ite` lies in the tree's interval
    pub tree_within : (t : Tree) → holds_choice t ≡ false → RootsHold f names t → Within (enclosed ranges t) (tree_value f names t)
    tree_within (atomic at l) n h = leaf-within at l
    tree_within (applied at name ts) n h =
        let s = split-or (is_choice (found name operators)) (hold_choice ts) n in
        application-within at name (found name operators) (all_enclosed ranges ts) (trees_meaning (loosened zero_fraction) (root_of f) names ts) s.0 (trees_within ts s.1 h)
    tree_within (root at t) n h = root-within (enclosed ranges t) (tree_value f names t) (tree_within t n h.0) h.1
    tree_within (quotient at t d) n h =
        let s = split-or (holds_choice t) (holds_choice d) n in
        quotient-within (enclosed ranges t) (enclosed ranges d) (tree_value f names t) (tree_value f names d) (tree_within t s.0 h.0) (tree_within d s.1 h.1)
    tree_within (formless at) n h = zero-anywhere

    trees_within : (ts : Trees) → hold_choice ts ≡ false → AllRootsHold f names ts → EachWithin (all_enclosed ranges ts) (trees_meaning (loosened zero_fraction) (root_of f) names ts)
    trees_within no_trees n h = tt
    trees_within (more_trees t ts) n h = let s = split-or (holds_choice t) (hold_choice ts) n in (tree_within t s.0 h.0, trees_within ts s.1 h.1)

-- What is exactly true is true loosened, and what is exactly false has a negation that is true loosened.
use Rattle.std.proofs.Common.{◌≡◌, ℕ, ◌*◌, ◌^◌, List, [], ◌∷◌, ◌++◌, map, Bool, true, false, not, ◌&&◌, ◌||◌, cond, Option, Some, None, IsTrue, refl, ap, ap₂, sym, ◌∙◌, subst, inl, inr, ◌⊎◌, arith, length, true≢false, ℤ, pos, ◌+ℤ◌, ◌*ℤ◌, neg_ℤ, ◌≤ℤ◌, mul-le-mul_right, mul-pos}
use native.Mathlib.Nat.{one-le-pow}
use Rattle.std.specs.List.{AllByRecursion}
use Rattle.dyadic.specs.Fraction.{Fraction, IsFraction, zero_fraction, negated, sum_of, difference_of, product_of, quotient_of, at_most}
use Rattle.dyadic.specs.Point.{Sort, real_sort, bool_sort, Coordinate, at_fraction, at_bool, IsPoint}
use Rattle.dyadic.proofs.Equal.{holds_le, le_holds, total}
use Rattle.dyadic.proofs.Ring
use Rattle.dyadic.proofs.Ring.{atom, natural, read_below}
use Rattle.script_model.specs.Reading.{literal_value, Operator, truth, falsehood, negation, conjunction, disjunction, implication, exclusive, equality, distinctness, choice, minus, plus, times, divide, at_most_op, below_op, at_least_op, above_op}
use Rattle.script_model.specs.Meaning.{Pair, Value, real, bool, either, fraction_of, lift_value, step_values, lift_pair, compare_values, subtract_values, pair_of, true_pair, not_pair, and_pair, or_pair, xor_pair, choice_pair, all_true, some_true, all_pair, any_pair, implies_pair, at_most_pair, at_least_pair, equal_pair, differing_values, neighbours, pairs, from_left, first_and_rest, equality_of, distinctness_of, choice_of, negation_of, operation, loosened, coordinate_value}
use Rattle.script_model.specs.Script.{Command, claims, Holds, Satisfies}
use Rattle.script_model.specs.Exact.{Exact, number, truth_is, senseless, with_one, numbers, truths, of_these, of_numbers, of_truths, compares, equal, unequal, at_least, below, above, differ, agree, opposite, implied, chosen, exact_equality, exact_distinctness, exact_choice, subtraction, exact_operation, exactly, exact_coordinate, IsTruth, SatisfiesExactly}
use Rattle.script_model.proofs.Related.{Each, Respects, claims_alike}
use Rattle.script_model.proofs.Bounds.{Keeps as KeepsFractions, sum_is, product_is, quotient_is, negated_is, difference_is}

-- a truth value is kept by a pair: where it is true the first holds, else the second
pub record Kept (b : Bool) (t : Pair) : Type 0 where
  pub yes : b ≡ true → t.pos ≡ true
  pub no : b ≡ false → t.neg ≡ true

-- the number is what a value is, where each condition that picks an arm holds
abbrev pub Reads : Fraction → Value → Type 0
Reads q (real r) = (q ≡ r) × IsFraction q
Reads q (either c v w) = ((c.pos ≡ true) × Reads q v) ⊎ ((c.neg ≡ true) × Reads q w)
Reads q (bool t) = ⊥

abbrev pub Keeps : Exact → Value → Type 0
Keeps (number q) v = Reads q v
Keeps (truth_is b) (bool t) = Kept b t
Keeps (truth_is b) v = ⊥
Keeps senseless v = Unit {0}

abbrev EachKept : List Bool → List Pair → Type 0
EachKept [] [] = Unit {0}
EachKept (b ∷ bs) (t ∷ ts) = Kept b t × EachKept bs ts
EachKept [] (t ∷ ts) = ⊥
EachKept (b ∷ bs) [] = ⊥

-- ---- connectives

or-left : (x y : Bool) → x ≡ true → x || y ≡ true
or-left true y h = refl
or-left false y h = cc

or-right : (x y : Bool) → y ≡ true → x || y ≡ true
or-right true y h = refl
or-right false y h = h

and-both : (x y : Bool) → x ≡ true → y ≡ true → x && y ≡ true
and-both true y h k = k
and-both false y h k = h

kept-true : (t : Pair) → t.pos ≡ true → Kept true t
kept-true t h = record { yes = λ e. h; no = λ e. cc }

kept-false : (t : Pair) → t.neg ≡ true → Kept false t
kept-false t h = record { yes = λ e. cc; no = λ e. h }

not-kept : (b : Bool) (t : Pair) → Kept b t → Kept (not b) (not_pair t)
not-kept true t h = kept-false (not_pair t) (h.yes refl)
not-kept false t h = kept-true (not_pair t) (h.no refl)

and-kept : (a b : Bool) (t u : Pair) → Kept a t → Kept b u → Kept (a && b) (and_pair t u)
and-kept true true t u h k = kept-true (and_pair t u) (and-both t.pos u.pos (h.yes refl) (k.yes refl))
and-kept true false t u h k = kept-false (and_pair t u) (or-right t.neg u.neg (k.no refl))
and-kept false b t u h k = kept-false (and_pair t u) (or-left t.neg u.neg (h.no refl))

or-kept : (a b : Bool) (t u : Pair) → Kept a t → Kept b u → Kept (a || b) (or_pair t u)
or-kept true b t u h k = kept-true (or_pair t u) (or-left t.pos u.pos (h.yes refl))
or-kept false true t u h k = kept-true (or_pair t u) (or-right t.pos u.pos (k.yes refl))
or-kept false false t u h k = kept-false (or_pair t u) (and-both t.neg u.neg (h.no refl) (k.no refl))

differ-kept : (a b : Bool) (t u : Pair) → Kept a t → Kept b u → Kept (differ a b) (xor_pair t u)
differ-kept true true t u h k = kept-false (xor_pair t u) (or-left (t.pos && u.pos) (t.neg && u.neg) (and-both t.pos u.pos (h.yes refl) (k.yes refl)))
differ-kept true false t u h k = kept-true (xor_pair t u) (or-left (t.pos && u.neg) (t.neg && u.pos) (and-both t.pos u.neg (h.yes refl) (k.no refl)))
differ-kept false true t u h k = kept-true (xor_pair t u) (or-right (t.pos && u.neg) (t.neg && u.pos) (and-both t.neg u.pos (h.no refl) (k.yes refl)))
differ-kept false false t u h k = kept-false (xor_pair t u) (or-right (t.pos && u.pos) (t.neg && u.neg) (and-both t.neg u.neg (h.no refl) (k.no refl)))

agree-kept : (a b : Bool) (t u : Pair) → Kept a t → Kept b u → Kept (agree a b) (not_pair (xor_pair t u))
agree-kept a b t u h k = not-kept (differ a b) (xor_pair t u) (differ-kept a b t u h k)

choice-kept : (c a b : Bool) (o t u : Pair) → Kept c o → Kept a t → Kept b u → Kept (cond c a b) (choice_pair o t u)
choice-kept true true b o t u g h k = kept-true (choice_pair o t u) (or-left (o.pos && t.pos) (o.neg && u.pos) (and-both o.pos t.pos (g.yes refl) (h.yes refl)))
choice-kept true false b o t u g h k = kept-false (choice_pair o t u) (or-left (o.pos && t.neg) (o.neg && u.neg) (and-both o.pos t.neg (g.yes refl) (h.no refl)))
choice-kept false a true o t u g h k = kept-true (choice_pair o t u) (or-right (o.pos && t.pos) (o.neg && u.pos) (and-both o.neg u.pos (g.no refl) (k.yes refl)))
choice-kept false a false o t u g h k = kept-false (choice_pair o t u) (or-right (o.pos && t.neg) (o.neg && u.neg) (and-both o.neg u.neg (g.no refl) (k.no refl)))

-- ---- lists

all-kept : (bs : List Bool) (ts : List Pair) → EachKept bs ts → Kept (all_true bs) (all_pair ts)
all-kept [] [] h = kept-true (all_pair []) refl
all-kept (b ∷ bs) (t ∷ ts) h = and-kept b (all_true bs) t (all_pair ts) h.0 (all-kept bs ts h.1)
all-kept [] (t ∷ ts) h = elim h [ ]
all-kept (b ∷ bs) [] h = elim h [ ]

some-kept : (bs : List Bool) (ts : List Pair) → EachKept bs ts → Kept (some_true bs) (any_pair ts)
some-kept [] [] h = kept-false (any_pair []) refl
some-kept (b ∷ bs) (t ∷ ts) h = or-kept b (some_true bs) t (any_pair ts) h.0 (some-kept bs ts h.1)
some-kept [] (t ∷ ts) h = elim h [ ]
some-kept (b ∷ bs) [] h = elim h [ ]

implied-kept : (bs : List Bool) (ts : List Pair) → EachKept bs ts → Kept (implied bs) (implies_pair ts)
implied-kept [] [] h = kept-true true_pair refl
implied-kept (b ∷ []) (t ∷ []) h = h.0
implied-kept (a ∷ b ∷ bs) (t ∷ u ∷ ts) h = or-kept (not a) (implied (b ∷ bs)) (not_pair t) (implies_pair (u ∷ ts)) (not-kept a t h.0) (implied-kept (b ∷ bs) (u ∷ ts) h.1)
implied-kept [] (t ∷ ts) h = elim h [ ]
implied-kept (b ∷ bs) [] h = elim h [ ]
implied-kept (b ∷ []) (t ∷ u ∷ ts) h = elim h.1 [ ]
implied-kept (a ∷ b ∷ bs) (t ∷ []) h = elim h.1 [ ]

opposite-kept : (bs : List Bool) (ts : List Pair) → EachKept bs ts → Kept (opposite bs) (negation_of ts)
opposite-kept [] [] h = kept-true true_pair refl
opposite-kept (b ∷ bs) (t ∷ ts) h = not-kept b t h.0
opposite-kept [] (t ∷ ts) h = elim h [ ]
opposite-kept (b ∷ bs) [] h = elim h [ ]

differ-from : (a : Bool) (t : Pair) (bs : List Bool) (ts : List Pair) → Kept a t → EachKept bs ts → Kept (from_left differ a bs) (from_left xor_pair t ts)
differ-from a t [] [] h k = h
differ-from a t (b ∷ bs) (u ∷ ts) h k = differ-from (differ a b) (xor_pair t u) bs ts (differ-kept a b t u h k.0) k.1
differ-from a t [] (u ∷ ts) h k = elim k [ ]
differ-from a t (b ∷ bs) [] h k = elim k [ ]

differ-all : (bs : List Bool) (ts : List Pair) → EachKept bs ts → Kept (first_and_rest differ true bs) (first_and_rest xor_pair true_pair ts)
differ-all [] [] h = kept-true true_pair refl
differ-all (b ∷ bs) (t ∷ ts) h = differ-from b t bs ts h.0 h.1
differ-all [] (t ∷ ts) h = elim h [ ]
differ-all (b ∷ bs) [] h = elim h [ ]

agree-neighbours : (bs : List Bool) (ts : List Pair) → EachKept bs ts → EachKept (neighbours agree bs) (neighbours (λ a b. not_pair (xor_pair a b)) ts)
agree-neighbours [] [] h = tt
agree-neighbours (b ∷ []) (t ∷ []) h = tt
agree-neighbours (a ∷ b ∷ bs) (t ∷ u ∷ ts) h = (agree-kept a b t u h.0 h.1.0, agree-neighbours (b ∷ bs) (u ∷ ts) h.1)
agree-neighbours [] (t ∷ ts) h = elim h [ ]
agree-neighbours (b ∷ bs) [] h = elim h [ ]
agree-neighbours (b ∷ []) (t ∷ u ∷ ts) h = elim h.1 [ ]
agree-neighbours (a ∷ b ∷ bs) (t ∷ []) h = elim h.1 [ ]

append-kept : (xs bs : List Bool) (ts us : List Pair) → EachKept xs ts → EachKept bs us → EachKept (xs ++ bs) (ts ++ us)
append-kept [] bs [] us h k = k
append-kept (a ∷ xs) bs (t ∷ ts) us h k = (h.0, append-kept xs bs ts us h.1 k)
append-kept [] bs (t ∷ ts) us h k = elim h [ ]
append-kept (a ∷ xs) bs [] us h k = elim h [ ]

differ-each : (a : Bool) (t : Pair) (bs : List Bool) (ts : List Pair) → Kept a t → EachKept bs ts → EachKept (map (differ a) bs) (map (xor_pair t) ts)
differ-each a t [] [] h k = tt
differ-each a t (b ∷ bs) (u ∷ ts) h k = (differ-kept a b t u h k.0, differ-each a t bs ts h k.1)
differ-each a t [] (u ∷ ts) h k = elim k [ ]
differ-each a t (b ∷ bs) [] h k = elim k [ ]

differ-pairs : (bs : List Bool) (ts : List Pair) → EachKept bs ts → EachKept (pairs differ bs) (pairs xor_pair ts)
differ-pairs [] [] h = tt
differ-pairs (b ∷ bs) (t ∷ ts) h = append-kept (map (differ b) bs) (pairs differ bs) (map (xor_pair t) ts) (pairs xor_pair ts) (differ-each b t bs ts h.0 h.1) (differ-pairs bs ts h.1)
differ-pairs [] (t ∷ ts) h = elim h [ ]
differ-pairs (b ∷ bs) [] h = elim h [ ]

-- ---- arguments

abbrev ReadsEach : List Fraction → List Value → Type 0
ReadsEach [] [] = Unit {0}
ReadsEach (q ∷ qs) (v ∷ vs) = Reads q v × ReadsEach qs vs
ReadsEach [] (v ∷ vs) = ⊥
ReadsEach (q ∷ qs) [] = ⊥

abbrev IfNumbers : Option (List Fraction) → List Value → Type 0
IfNumbers None vs = Unit {0}
IfNumbers (Some qs) vs = ReadsEach qs vs

number-first : (q : Fraction) (v : Value) (o : Option (List Fraction)) (vs : List Value) → Reads q v → IfNumbers o vs → IfNumbers (with_one q o) (v ∷ vs)
number-first q v None vs h k = tt
number-first q v (Some qs) vs h k = (h, k)

if-numbers : (es : List Exact) (vs : List Value) → Each Keeps es vs → IfNumbers (numbers es) vs
if-numbers [] [] h = tt
if-numbers (number q ∷ es) (v ∷ vs) h = number-first q v (numbers es) vs h.0 (if-numbers es vs h.1)
if-numbers (truth_is b ∷ es) (v ∷ vs) h = tt
if-numbers (senseless ∷ es) (v ∷ vs) h = tt
if-numbers [] (v ∷ vs) h = elim h [ ]
if-numbers (e ∷ es) [] h = elim h [ ]

abbrev IfTruths : Option (List Bool) → List Pair → Type 0
IfTruths None ts = Unit {0}
IfTruths (Some bs) ts = EachKept bs ts

truth-first : (b : Bool) (t : Pair) (o : Option (List Bool)) (ts : List Pair) → Kept b t → IfTruths o ts → IfTruths (with_one b o) (t ∷ ts)
truth-first b t None ts h k = tt
truth-first b t (Some bs) ts h k = (h, k)

if-truths : (es : List Exact) (vs : List Value) → Each Keeps es vs → IfTruths (truths es) (map pair_of vs)
if-truths [] [] h = tt
if-truths (truth_is b ∷ es) (bool t ∷ vs) h = truth-first b t (truths es) (map pair_of vs) h.0 (if-truths es vs h.1)
if-truths (truth_is b ∷ es) (real q ∷ vs) h = elim h.0 [ ]
if-truths (truth_is b ∷ es) (either c v w ∷ vs) h = elim h.0 [ ]
if-truths (number q ∷ es) (v ∷ vs) h = tt
if-truths (senseless ∷ es) (v ∷ vs) h = tt
if-truths [] (v ∷ vs) h = elim h [ ]
if-truths (e ∷ es) [] h = elim h [ ]

on-truths : (f : List Bool → Bool) (g : List Pair → Pair) → ((bs : List Bool) (ts : List Pair) → EachKept bs ts → Kept (f bs) (g ts)) →
    (es : List Exact) (vs : List Value) → Each Keeps es vs → Keeps (of_truths f es) (bool (g (map pair_of vs)))
on-truths f g k es vs h = go (truths es) (if-truths es vs h)
  where
    go : (o : Option (List Bool)) → IfTruths o (map pair_of vs) → Keeps (of_these (λ bs. truth_is (f bs)) o) (bool (g (map pair_of vs)))
    go None x = tt
    go (Some bs) x = k bs (map pair_of vs) x

on-numbers : (f : List Fraction → Fraction) (g : List Value → Value) → ((qs : List Fraction) (vs : List Value) → ReadsEach qs vs → Reads (f qs) (g vs)) →
    (es : List Exact) (vs : List Value) → Each Keeps es vs → Keeps (of_numbers f es) (g vs)
on-numbers f g k es vs h = go (numbers es) (if-numbers es vs h)
  where
    go : (o : Option (List Fraction)) → IfNumbers o vs → Keeps (of_these (λ qs. number (f qs)) o) (g vs)
    go None x = tt
    go (Some qs) x = k qs vs x

on-compared : (f : List Fraction → List Bool) (g : List Value → List Pair) → ((qs : List Fraction) (vs : List Value) → ReadsEach qs vs → EachKept (f qs) (g vs)) →
    (es : List Exact) (vs : List Value) → Each Keeps es vs → Keeps (compares f es) (bool (all_pair (g vs)))
on-compared f g k es vs h = go (numbers es) (if-numbers es vs h)
  where
    go : (o : Option (List Fraction)) → IfNumbers o vs → Keeps (of_these (λ qs. truth_is (all_true (f qs))) o) (bool (all_pair (g vs)))
    go None x = tt
    go (Some qs) x = all-kept (f qs) (g vs) (k qs vs x)

-- ---- arithmetic

reads-lift : (f : Fraction → Fraction) (g : Fraction → Value) → ((q : Fraction) → IsFraction q → Reads (f q) (g q)) → (q : Fraction) (v : Value) → Reads q v → Reads (f q) (lift_value g v)
reads-lift f g k q (real r) h = subst (λ (x : Fraction). Reads (f q) (g x)) h.0 (k q h.1)
reads-lift f g k q (either c v w) h = elim h [ inl x ↦ inl (x.0, reads-lift f g k q v x.1) | inr x ↦ inr (x.0, reads-lift f g k q w x.1) ]
reads-lift f g k q (bool t) h = elim h [ ]

reads-step : (f : Fraction → Fraction → Fraction) → KeepsFractions f → (p q : Fraction) (v w : Value) → Reads p v → Reads q w → Reads (f p q) (step_values f v w)
reads-step f g p q v w h k = reads-lift (λ x. f x q) (λ x. lift_value (λ y. real (f x y)) w) (λ x i. reads-lift (f x) (λ y. real (f x y)) (λ y j. (refl, g x y i j)) q w k) p v h

reads-steps : (f : Fraction → Fraction → Fraction) → KeepsFractions f → (q : Fraction) (v : Value) (qs : List Fraction) (vs : List Value) → Reads q v → ReadsEach qs vs →
    Reads (from_left f q qs) (from_left (step_values f) v vs)
reads-steps f g q v [] [] h k = h
reads-steps f g q v (r ∷ qs) (w ∷ vs) h k = reads-steps f g (f q r) (step_values f v w) qs vs (reads-step f g q r v w h k.0) k.1
reads-steps f g q v [] (w ∷ vs) h k = elim k [ ]
reads-steps f g q v (r ∷ qs) [] h k = elim k [ ]

reads-all : (f : Fraction → Fraction → Fraction) → KeepsFractions f → (qs : List Fraction) (vs : List Value) → ReadsEach qs vs →
    Reads (first_and_rest f zero_fraction qs) (first_and_rest (step_values f) (real zero_fraction) vs)
reads-all f g [] [] h = (refl, omega arith)
reads-all f g (q ∷ qs) (v ∷ vs) h = reads-steps f g q v qs vs h.0 h.1
reads-all f g [] (v ∷ vs) h = elim h [ ]
reads-all f g (q ∷ qs) [] h = elim h [ ]

reads-difference : (qs : List Fraction) (vs : List Value) → ReadsEach qs vs → Reads (subtraction qs) (subtract_values vs)
reads-difference [] [] h = (refl, omega arith)
reads-difference (q ∷ []) (v ∷ []) h = reads-lift negated (λ x. real (negated x)) (λ x i. (refl, negated_is x i)) q v h.0
reads-difference (q ∷ r ∷ qs) (v ∷ w ∷ vs) h = reads-steps difference_of difference_is q v (r ∷ qs) (w ∷ vs) h.0 h.1
reads-difference [] (v ∷ vs) h = elim h [ ]
reads-difference (q ∷ qs) [] h = elim h [ ]
reads-difference (q ∷ []) (v ∷ w ∷ vs) h = elim h.1 [ ]
reads-difference (q ∷ r ∷ qs) (v ∷ []) h = elim h.1 [ ]

-- ---- `ite`

-- of a Real arm
arm-real : (t : Pair) (v w : Value) (vs : List Value) (p q r : Fraction) → Reads p v → Reads r (either t v w) → Reads r (choice_of (bool t ∷ v ∷ w ∷ vs))
arm-real t (real x) w vs p q r h k = k
arm-real t (either c x y) w vs p q r h k = k
arm-real t (bool u) w vs p q r h k = elim h [ ]

arm-picked : (c : Bool) (t : Pair) (v w : Value) (p q : Fraction) → Kept c t → Reads p v → Reads q w → Reads (cond c p q) (either t v w)
arm-picked true t v w p q g h k = inl (g.yes refl, h)
arm-picked false t v w p q g h k = inr (g.no refl, k)

truths-choice : (es : List Exact) (vs : List Value) → Each Keeps es vs → (a : Pair) (v w : Value) (rest : List Value) → vs ≡ v ∷ bool a ∷ w ∷ rest → Keeps (of_truths chosen es) (choice_of vs)
truths-choice es vs h a v w rest e = subst (λ (xs : List Value). Keeps (of_truths chosen es) (choice_of xs)) (sym e)
    (go (truths es) (subst (λ (xs : List Value). IfTruths (truths es) (map pair_of xs)) e (if-truths es vs h)))
  where
    go : (o : Option (List Bool)) → IfTruths o (map pair_of (v ∷ bool a ∷ w ∷ rest)) → Keeps (of_these (λ bs. truth_is (chosen bs)) o) (bool (choice_pair (pair_of v) a (pair_of w)))
    go None x = tt
    go (Some (c ∷ b ∷ d ∷ bs)) x = choice-kept c b d (pair_of v) a (pair_of w) x.0 x.1.0 x.1.1.0
    go (Some []) x = elim x [ ]
    go (Some (c ∷ [])) x = elim x.1 [ ]
    go (Some (c ∷ b ∷ [])) x = elim x.1.1 [ ]

choice-of-kept : (es : List Exact) (vs : List Value) → Each Keeps es vs → Keeps (exact_choice es) (choice_of vs)
choice-of-kept [] [] h = kept-true true_pair refl
choice-of-kept (truth_is c ∷ []) (v ∷ []) h = kept-true true_pair refl
choice-of-kept (number q ∷ []) (v ∷ []) h = tt
choice-of-kept (senseless ∷ []) (v ∷ []) h = tt
choice-of-kept (truth_is c ∷ truth_is a ∷ []) (v ∷ w ∷ []) h = kept-true true_pair refl
choice-of-kept (truth_is c ∷ number q ∷ []) (v ∷ w ∷ []) h = tt
choice-of-kept (truth_is c ∷ senseless ∷ es) (v ∷ vs) h = tt
choice-of-kept (number q ∷ e ∷ es) (v ∷ vs) h = tt
choice-of-kept (senseless ∷ e ∷ es) (v ∷ vs) h = tt
choice-of-kept (truth_is c ∷ truth_is a ∷ e ∷ es) (v ∷ bool t ∷ w ∷ vs) h = truths-choice (truth_is c ∷ truth_is a ∷ e ∷ es) (v ∷ bool t ∷ w ∷ vs) h t v w vs refl
choice-of-kept (truth_is c ∷ truth_is a ∷ e ∷ es) (v ∷ real q ∷ vs) h = elim h.1.0 [ ]
choice-of-kept (truth_is c ∷ truth_is a ∷ e ∷ es) (v ∷ either t x y ∷ vs) h = elim h.1.0 [ ]
choice-of-kept (truth_is c ∷ number p ∷ number q ∷ es) (bool t ∷ v ∷ w ∷ vs) h = arm-real t v w vs p q (cond c p q) h.1.0 (arm-picked c t v w p q h.0 h.1.0 h.1.1.0)
choice-of-kept (truth_is c ∷ number p ∷ number q ∷ es) (real r ∷ vs) h = elim h.0 [ ]
choice-of-kept (truth_is c ∷ number p ∷ number q ∷ es) (either t x y ∷ vs) h = elim h.0 [ ]
choice-of-kept (truth_is c ∷ number p ∷ truth_is a ∷ es) (v ∷ vs) h = tt
choice-of-kept (truth_is c ∷ number p ∷ senseless ∷ es) (v ∷ vs) h = tt
choice-of-kept [] (v ∷ vs) h = elim h [ ]
choice-of-kept (e ∷ es) [] h = elim h [ ]
choice-of-kept (truth_is c ∷ []) (v ∷ w ∷ vs) h = elim h.1 [ ]
choice-of-kept (truth_is c ∷ truth_is a ∷ []) (v ∷ w ∷ x ∷ vs) h = elim h.1.1 [ ]
choice-of-kept (truth_is c ∷ truth_is a ∷ []) (v ∷ []) h = elim h.1 [ ]
choice-of-kept (truth_is c ∷ truth_is a ∷ e ∷ es) (v ∷ []) h = elim h.1 [ ]
choice-of-kept (truth_is c ∷ truth_is a ∷ e ∷ es) (v ∷ bool t ∷ []) h = elim h.1.1 [ ]
choice-of-kept (truth_is c ∷ number p ∷ number q ∷ es) (bool t ∷ []) h = elim h.1 [ ]
choice-of-kept (truth_is c ∷ number p ∷ number q ∷ es) (bool t ∷ v ∷ []) h = elim h.1.1 [ ]
choice-of-kept (truth_is c ∷ number q ∷ []) (v ∷ vs) h = tt
choice-of-kept (number q ∷ []) (v ∷ w ∷ vs) h = elim h.1 [ ]
choice-of-kept (senseless ∷ []) (v ∷ w ∷ vs) h = elim h.1 [ ]

-- ---- comparisons

below-at : (a c n : ℤ) (b d e : ℕ) → (a *ℤ pos d) ≤ℤ (c *ℤ pos b) → (pos 0 *ℤ pos e) ≤ℤ (n *ℤ pos 1) →
    (((a *ℤ pos d) +ℤ (neg_ℤ c *ℤ pos b)) *ℤ pos e) ≤ℤ (n *ℤ pos (b * d))
below-at a c n b d e h k = Ring.below (Ring.times (Ring.plus (Ring.times (atom a) (natural d)) (Ring.times (Ring.minus (atom c)) (natural b))) (natural e)) (Ring.times (atom n) (natural (b * d)))
    (omega (
      arith,
      mul-le-mul_right e (read_below (Ring.times (atom a) (natural d)) (Ring.times (atom c) (natural b)) h),
      mul-le-mul_right (b * d) (read_below (Ring.times (natural 0) (natural e)) (Ring.times (atom n) (natural 1)) k),
    ))

above-at : (a c n : ℤ) (b d e : ℕ) → (c *ℤ pos b) ≤ℤ (a *ℤ pos d) → (pos 0 *ℤ pos e) ≤ℤ (n *ℤ pos 1) →
    (neg_ℤ n *ℤ pos (b * d)) ≤ℤ (((a *ℤ pos d) +ℤ (neg_ℤ c *ℤ pos b)) *ℤ pos e)
above-at a c n b d e h k = Ring.below (Ring.times (Ring.minus (atom n)) (natural (b * d))) (Ring.times (Ring.plus (Ring.times (atom a) (natural d)) (Ring.times (Ring.minus (atom c)) (natural b))) (natural e))
    (omega (
      arith,
      mul-le-mul_right e (read_below (Ring.times (atom c) (natural b)) (Ring.times (atom a) (natural d)) h),
      mul-le-mul_right (b * d) (read_below (Ring.times (natural 0) (natural e)) (Ring.times (atom n) (natural 1)) k),
    ))

other-way : (p q : Fraction) → at_most p q ≡ false → at_most q p ≡ true
other-way p q h = elim (total p q) [ inl k ↦ absurd (true≢false (sym k ∙ h)) | inr k ↦ k ]

module _ (m : Fraction) (some : IsTrue (at_most zero_fraction m)) where
  not-above : (p q : Fraction) → at_most p q ≡ true → at_most (difference_of p q) m ≡ true
  unfolding at_most sum_of negated
  not-above p q h = le_holds _ _ (below-at p.num q.num m.num p.den q.den m.den (holds_le _ _ h) (holds_le _ _ some))

  not-below : (p q : Fraction) → at_most q p ≡ true → at_most (negated m) (difference_of p q) ≡ true
  unfolding at_most sum_of negated
  not-below p q h = le_holds _ _ (above-at p.num q.num m.num p.den q.den m.den (holds_le _ _ h) (holds_le _ _ some))

  at-most-by : (p q : Fraction) (b : Bool) → at_most p q ≡ b → Kept b (at_most_pair m p q)
  at-most-by p q true e = kept-true (at_most_pair m p q) (not-above p q e)
  at-most-by p q false e = kept-false (at_most_pair m p q) (not-below p q (other-way p q e))

  at-most-kept : (p q : Fraction) → Kept (at_most p q) (at_most_pair m p q)
  at-most-kept p q = at-most-by p q (at_most p q) refl

  at-least-by : (p q : Fraction) (b : Bool) → at_most q p ≡ b → Kept b (at_least_pair m p q)
  at-least-by p q true e = kept-true (at_least_pair m p q) (not-below p q e)
  at-least-by p q false e = kept-false (at_least_pair m p q) (not-above p q (other-way q p e))

  at-least-kept : (p q : Fraction) → Kept (at_least p q) (at_least_pair m p q)
  at-least-kept p q = at-least-by p q (at_most q p) refl

  -- p < q is the opposite of q <= p
  below-by : (p q : Fraction) (b : Bool) → at_most q p ≡ b → Kept (not b) (at_most_pair m p q)
  below-by p q true e = kept-false (at_most_pair m p q) (not-below p q e)
  below-by p q false e = kept-true (at_most_pair m p q) (not-above p q (other-way q p e))

  below-kept : (p q : Fraction) → Kept (below p q) (at_most_pair m p q)
  below-kept p q = below-by p q (at_most q p) refl

  above-by : (p q : Fraction) (b : Bool) → at_most p q ≡ b → Kept (not b) (at_least_pair m p q)
  above-by p q true e = kept-false (at_least_pair m p q) (not-above p q e)
  above-by p q false e = kept-true (at_least_pair m p q) (not-below p q (other-way p q e))

  above-kept : (p q : Fraction) → Kept (above p q) (at_least_pair m p q)
  above-kept p q = above-by p q (at_most p q) refl

  equal-by : (p q : Fraction) (b c : Bool) → at_most p q ≡ b → at_most q p ≡ c → Kept (b && c) (equal_pair m p q)
  equal-by p q true true e f = kept-true (equal_pair m p q) (and-both (at_most (negated m) (difference_of p q)) (at_most (difference_of p q) m) (not-below p q f) (not-above p q e))
  equal-by p q true false e f = kept-false (equal_pair m p q) refl
  equal-by p q false c e f = kept-false (equal_pair m p q) refl

  equal-kept : (p q : Fraction) → Kept (equal p q) (equal_pair m p q)
  equal-kept p q = equal-by p q (at_most p q) (at_most q p) refl refl

  abbrev Compared : (Fraction → Fraction → Bool) → (Fraction → Fraction → Pair) → Type 0
  Compared f g = (p q : Fraction) → Kept (f p q) (g p q)

  first-arm : (b : Bool) (c t u : Pair) → c.pos ≡ true → Kept b t → Kept b (choice_pair c t u)
  first-arm true c t u e h = kept-true (choice_pair c t u) (or-left (c.pos && t.pos) (c.neg && u.pos) (and-both c.pos t.pos e (h.yes refl)))
  first-arm false c t u e h = kept-false (choice_pair c t u) (or-left (c.pos && t.neg) (c.neg && u.neg) (and-both c.pos t.neg e (h.no refl)))

  second-arm : (b : Bool) (c t u : Pair) → c.neg ≡ true → Kept b u → Kept b (choice_pair c t u)
  second-arm true c t u e h = kept-true (choice_pair c t u) (or-right (c.pos && t.pos) (c.neg && u.pos) (and-both c.neg u.pos e (h.yes refl)))
  second-arm false c t u e h = kept-false (choice_pair c t u) (or-right (c.pos && t.neg) (c.neg && u.neg) (and-both c.neg u.neg e (h.no refl)))

  lift-kept : (f : Fraction → Bool) (g : Fraction → Pair) → ((q : Fraction) → Kept (f q) (g q)) → (q : Fraction) (v : Value) → Reads q v → Kept (f q) (lift_pair g v)
  lift-kept f g k q (real r) h = subst (λ (x : Fraction). Kept (f q) (g x)) h.0 (k q)
  lift-kept f g k q (either c v w) h = elim h [
    | inl x ↦ first-arm (f q) c (lift_pair g v) (lift_pair g w) x.0 (lift-kept f g k q v x.1)
    | inr x ↦ second-arm (f q) c (lift_pair g v) (lift_pair g w) x.0 (lift-kept f g k q w x.1)
  ]
  lift-kept f g k q (bool t) h = elim h [ ]

  compare-kept : (f : Fraction → Fraction → Bool) (g : Fraction → Fraction → Pair) → Compared f g → (p q : Fraction) (v w : Value) → Reads p v → Reads q w → Kept (f p q) (compare_values g v w)
  compare-kept f g k p q v w h i = lift-kept (λ x. f x q) (λ x. lift_pair (λ y. g x y) w) (λ x. lift-kept (f x) (g x) (k x) q w i) p v h

  neighbours-kept : (f : Fraction → Fraction → Bool) (g : Fraction → Fraction → Pair) → Compared f g → (qs : List Fraction) (vs : List Value) → ReadsEach qs vs →
      EachKept (neighbours f qs) (neighbours (compare_values g) vs)
  neighbours-kept f g k [] [] h = tt
  neighbours-kept f g k (q ∷ []) (v ∷ []) h = tt
  neighbours-kept f g k (q ∷ r ∷ qs) (v ∷ w ∷ vs) h = (compare-kept f g k q r v w h.0 h.1.0, neighbours-kept f g k (r ∷ qs) (w ∷ vs) h.1)
  neighbours-kept f g k [] (v ∷ vs) h = elim h [ ]
  neighbours-kept f g k (q ∷ qs) [] h = elim h [ ]
  neighbours-kept f g k (q ∷ []) (v ∷ w ∷ vs) h = elim h.1 [ ]
  neighbours-kept f g k (q ∷ r ∷ qs) (v ∷ []) h = elim h.1 [ ]

  differ-with-each : (q : Fraction) (v : Value) → Reads q v → (qs : List Fraction) (vs : List Value) → ReadsEach qs vs →
      EachKept (map (unequal q) qs) (map (differing_values m v) vs)
  differ-with-each q v i [] [] h = tt
  differ-with-each q v i (r ∷ qs) (w ∷ vs) h =
      (not-kept (equal q r) (compare_values (equal_pair m) v w) (compare-kept equal (equal_pair m) equal-kept q r v w i h.0), differ-with-each q v i qs vs h.1)
  differ-with-each q v i [] (w ∷ vs) h = elim h [ ]
  differ-with-each q v i (r ∷ qs) [] h = elim h [ ]

  unequal-pairs : (qs : List Fraction) (vs : List Value) → ReadsEach qs vs → EachKept (pairs unequal qs) (pairs (differing_values m) vs)
  unequal-pairs [] [] h = tt
  unequal-pairs (q ∷ qs) (v ∷ vs) h = append-kept (map (unequal q) qs) (pairs unequal qs) (map (differing_values m v) vs) (pairs (differing_values m) vs) (differ-with-each q v h.0 qs vs h.1) (unequal-pairs qs vs h.1)
  unequal-pairs [] (v ∷ vs) h = elim h [ ]
  unequal-pairs (q ∷ qs) [] h = elim h [ ]

  chain-kept : (f : Fraction → Fraction → Bool) (g : Fraction → Fraction → Pair) → Compared f g → (es : List Exact) (vs : List Value) → Each Keeps es vs →
      Keeps (compares (neighbours f) es) (bool (all_pair (neighbours (compare_values g) vs)))
  chain-kept f g k es vs h = on-compared (neighbours f) (neighbours (compare_values g)) (neighbours-kept f g k) es vs h

  -- ---- operators

  equality-kept : (es : List Exact) (vs : List Value) → Each Keeps es vs → Keeps (exact_equality es) (bool (equality_of m vs))
  equality-kept [] [] h = kept-true true_pair refl
  equality-kept (truth_is b ∷ es) (bool t ∷ vs) h = on-truths (λ bs. all_true (neighbours agree bs)) (λ ts. all_pair (neighbours (λ a b. not_pair (xor_pair a b)) ts))
      (λ bs ts k. all-kept (neighbours agree bs) (neighbours (λ a b. not_pair (xor_pair a b)) ts) (agree-neighbours bs ts k)) (truth_is b ∷ es) (bool t ∷ vs) h
  equality-kept (number q ∷ es) (real r ∷ vs) h = chain-kept equal (equal_pair m) equal-kept (number q ∷ es) (real r ∷ vs) h
  equality-kept (number q ∷ es) (either c v w ∷ vs) h = chain-kept equal (equal_pair m) equal-kept (number q ∷ es) (either c v w ∷ vs) h
  equality-kept (truth_is b ∷ es) (real q ∷ vs) h = elim h.0 [ ]
  equality-kept (truth_is b ∷ es) (either c v w ∷ vs) h = elim h.0 [ ]
  equality-kept (number q ∷ es) (bool t ∷ vs) h = elim h.0 [ ]
  equality-kept (senseless ∷ es) (v ∷ vs) h = tt
  equality-kept [] (v ∷ vs) h = elim h [ ]
  equality-kept (e ∷ es) [] h = elim h [ ]

  distinctness-kept : (es : List Exact) (vs : List Value) → Each Keeps es vs → Keeps (exact_distinctness es) (bool (distinctness_of m vs))
  distinctness-kept [] [] h = kept-true true_pair refl
  distinctness-kept (truth_is b ∷ es) (bool t ∷ vs) h = on-truths (λ bs. all_true (pairs differ bs)) (λ ts. all_pair (pairs xor_pair ts))
      (λ bs ts k. all-kept (pairs differ bs) (pairs xor_pair ts) (differ-pairs bs ts k)) (truth_is b ∷ es) (bool t ∷ vs) h
  distinctness-kept (number q ∷ es) (real r ∷ vs) h = on-compared (pairs unequal) (pairs (differing_values m)) unequal-pairs (number q ∷ es) (real r ∷ vs) h
  distinctness-kept (number q ∷ es) (either c v w ∷ vs) h = on-compared (pairs unequal) (pairs (differing_values m)) unequal-pairs (number q ∷ es) (either c v w ∷ vs) h
  distinctness-kept (truth_is b ∷ es) (real q ∷ vs) h = elim h.0 [ ]
  distinctness-kept (truth_is b ∷ es) (either c v w ∷ vs) h = elim h.0 [ ]
  distinctness-kept (number q ∷ es) (bool t ∷ vs) h = elim h.0 [ ]
  distinctness-kept (senseless ∷ es) (v ∷ vs) h = tt
  distinctness-kept [] (v ∷ vs) h = elim h [ ]
  distinctness-kept (e ∷ es) [] h = elim h [ ]

  operation-kept : (op : Operator) (es : List Exact) (vs : List Value) → Each Keeps es vs → Keeps (exact_operation op es) (operation m op vs)
  operation-kept truth es vs h = kept-true true_pair refl
  operation-kept falsehood es vs h = kept-false (not_pair true_pair) refl
  operation-kept negation es vs h = on-truths opposite negation_of opposite-kept es vs h
  operation-kept conjunction es vs h = on-truths all_true all_pair all-kept es vs h
  operation-kept disjunction es vs h = on-truths some_true any_pair some-kept es vs h
  operation-kept implication es vs h = on-truths implied implies_pair implied-kept es vs h
  operation-kept exclusive es vs h = on-truths (first_and_rest differ true) (first_and_rest xor_pair true_pair) differ-all es vs h
  operation-kept equality es vs h = equality-kept es vs h
  operation-kept distinctness es vs h = distinctness-kept es vs h
  operation-kept choice es vs h = choice-of-kept es vs h
  operation-kept minus es vs h = on-numbers subtraction subtract_values reads-difference es vs h
  operation-kept plus es vs h = on-numbers (first_and_rest sum_of zero_fraction) (first_and_rest (step_values sum_of) (real zero_fraction)) (reads-all sum_of sum_is) es vs h
  operation-kept times es vs h = on-numbers (first_and_rest product_of zero_fraction) (first_and_rest (step_values product_of) (real zero_fraction)) (reads-all product_of product_is) es vs h
  operation-kept divide es vs h = on-numbers (first_and_rest quotient_of zero_fraction) (first_and_rest (step_values quotient_of) (real zero_fraction)) (reads-all quotient_of quotient_is) es vs h
  operation-kept at_most_op es vs h = chain-kept at_most (at_most_pair m) at-most-kept es vs h
  operation-kept below_op es vs h = chain-kept below (at_most_pair m) below-kept es vs h
  operation-kept at_least_op es vs h = chain-kept at_least (at_least_pair m) at-least-kept es vs h
  operation-kept above_op es vs h = chain-kept above (at_least_pair m) above-kept es vs h

  -- ---- scripts

  keeps-respects : Respects Keeps exactly (loosened m)
  keeps-respects = record {
    literal = λ at digits more_digits. (refl, one-le-pow (length more_digits) 10 (omega arith));
    named = λ at e v h. h;
    annotated = λ at e v h. h;
    apply = λ at op es vs h. operation-kept op es vs h;
    bind = λ at names es vs e v h k. k;
    call = λ at es vs e v h k. k;
    nothing = λ at why. tt;
  }

  coordinates-kept : (sorts : List Sort) (point : List Coordinate) → IsPoint sorts point → Each Keeps (map exact_coordinate point) (map coordinate_value point)
  coordinates-kept [] [] h = tt
  coordinates-kept (real_sort ∷ sorts) (at_fraction q ∷ point) h = ((refl, h.0), coordinates-kept sorts point h.1)
  coordinates-kept (bool_sort ∷ sorts) (at_bool true ∷ point) h = (kept-true (record { pos = true; neg = false }) refl, coordinates-kept sorts point h)
  coordinates-kept (bool_sort ∷ sorts) (at_bool false ∷ point) h = (kept-false (record { pos = false; neg = true }) refl, coordinates-kept sorts point h)
  coordinates-kept (real_sort ∷ sorts) (at_bool b ∷ point) h = elim h [ ]
  coordinates-kept (bool_sort ∷ sorts) (at_fraction q ∷ point) h = elim h [ ]
  coordinates-kept (real_sort ∷ sorts) [] h = elim h [ ]
  coordinates-kept (bool_sort ∷ sorts) [] h = elim h [ ]
  coordinates-kept [] (c ∷ point) h = elim h [ ]

  all-hold : (es : List Exact) (vs : List Value) → Each Keeps es vs → AllByRecursion IsTruth es → AllByRecursion Holds (map pair_of vs)
  all-hold [] [] h k = tt
  all-hold (truth_is b ∷ es) (bool t ∷ vs) h k = (h.0.yes k.0, all-hold es vs h.1 k.1)
  all-hold (truth_is b ∷ es) (real q ∷ vs) h k = elim h.0 [ ]
  all-hold (truth_is b ∷ es) (either c v w ∷ vs) h k = elim h.0 [ ]
  all-hold (number q ∷ es) (v ∷ vs) h k = elim k.0 [ ]
  all-hold (senseless ∷ es) (v ∷ vs) h k = elim k.0 [ ]
  all-hold [] (v ∷ vs) h k = elim h [ ]
  all-hold (e ∷ es) [] h k = elim h [ ]

pub exact_loosened : (sorts : List Sort) (point : List Coordinate) → IsPoint sorts point → (m : Fraction) → IsTrue (at_most zero_fraction m) → (script : List Command) →
    SatisfiesExactly point script → Satisfies m point script
exact_loosened sorts point p m some script h = all-hold m some
    (claims exactly [] (map exact_coordinate point) script) (claims (loosened m) [] (map coordinate_value point) script)
    (claims_alike Keeps exactly (loosened m) (keeps-respects m some) [] [] tt (map exact_coordinate point) (map coordinate_value point) (coordinates-kept m some sorts point p) script) h

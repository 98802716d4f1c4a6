-- What a script says of a real point, read at the n-th fractions, is what it says of them.
use Rattle.std.proofs.Common.{◌≡◌, ℕ, List, [], ◌∷◌, ◌++◌, map, true, false, refl, ap, ap₂, sym, ◌∙◌}
use Rattle.dyadic.specs.Fraction.{Fraction, zero_fraction, negated, sum_of, difference_of, product_of, quotient_of}
use Rattle.script_model.specs.Reading.{Operator, truth, falsehood, negation, conjunction, disjunction, implication, exclusive, equality, distinctness, choice, minus, plus, times, divide, at_most_op, below_op, at_least_op, above_op}
use Rattle.script_model.specs.Meaning.{Pair, Value, real, bool, either, lift_value, step_values, lift_pair, compare_values, differing_values, subtract_values, pair_of, true_pair, not_pair, and_pair, or_pair, xor_pair, choice_pair, all_pair, any_pair, implies_pair, at_most_pair, at_least_pair, equal_pair, neighbours, pairs, from_left, first_and_rest, equality_of, distinctness_of, choice_of, choice_value, negation_of, operation, loosened, coordinate_value}
use Rattle.script_model.specs.Script.{Command, claims}
use Rattle.script_model.proofs.Related.{Each, Respects, claims_alike}
use Rattle.real_points.specs.Real.{Sequence}
use Rattle.real_points.specs.RealPoint.{RealCoordinate, at_real, at_truth, nth_point}
use Rattle.real_points.specs.RealMeaning.{Relation, is_at_most, is_less, is_at_least, is_greater, is_equal, Statement, yes, senseless, compares, deny, both, differ, choose, RealValue, number, statement, chosen, statement_of, each_arm, of_arm, step, compared, all_of, any_of, implied, first_denied, subtraction, equal_all, distinct_all, arm_of, picked, real_operation, over_reals, coordinate_of}

-- ---- lists

neighbours-map : {A B C D : Type 0} (f : A → A → B) (g : C → C → D) (h : A → C) (k : B → D) → ((a b : A) → k (f a b) ≡ g (h a) (h b)) → (us : List A) → map k (neighbours f us) ≡ neighbours g (map h us)
neighbours-map f g h k e [] = refl
neighbours-map f g h k e (a ∷ []) = refl
neighbours-map {D = D} f g h k e (a ∷ b ∷ us) = ap₂ (λ (x : D) (y : List D). x ∷ y) (e a b) (neighbours-map f g h k e (b ∷ us))

append-map : {A B : Type 0} (f : A → B) (xs ys : List A) → map f (xs ++ ys) ≡ map f xs ++ map f ys
append-map f [] ys = refl
append-map {B = B} f (x ∷ xs) ys = ap (λ (zs : List B). f x ∷ zs) (append-map f xs ys)

each-map : {A B C D : Type 0} (f : A → B) (g : C → D) (h : A → C) (k : B → D) → ((b : A) → k (f b) ≡ g (h b)) → (us : List A) → map k (map f us) ≡ map g (map h us)
each-map f g h k e [] = refl
each-map {D = D} f g h k e (a ∷ us) = ap₂ (λ (x : D) (y : List D). x ∷ y) (e a) (each-map f g h k e us)

pairs-map : {A B C D : Type 0} (f : A → A → B) (g : C → C → D) (h : A → C) (k : B → D) → ((a b : A) → k (f a b) ≡ g (h a) (h b)) → (us : List A) → map k (pairs f us) ≡ pairs g (map h us)
pairs-map f g h k e [] = refl
pairs-map {D = D} f g h k e (a ∷ us) = append-map k (map (f a) us) (pairs f us) ∙ ap₂ (λ (x y : List D). x ++ y) (each-map (f a) (g (h a)) h k (e a) us) (pairs-map f g h k e us)

-- ---- statements and values

abbrev pub relation_at : Fraction → Relation → Fraction → Fraction → Pair
relation_at d is_at_most p q = at_most_pair d p q
relation_at d is_less p q = at_most_pair d p q
relation_at d is_at_least p q = at_least_pair d p q
relation_at d is_greater p q = at_least_pair d p q
relation_at d is_equal p q = equal_pair d p q

-- a statement at the n-th fractions, each comparison loosened by d
abbrev pub pair_at : Fraction → ℕ → Statement → Pair
pair_at d n yes = true_pair
pair_at d n senseless = record { pos = false; neg = false }
pair_at d n (compares r a b) = relation_at d r (a n) (b n)
pair_at d n (deny s) = not_pair (pair_at d n s)
pair_at d n (both s t) = and_pair (pair_at d n s) (pair_at d n t)
pair_at d n (differ s t) = xor_pair (pair_at d n s) (pair_at d n t)
pair_at d n (choose c s t) = choice_pair (pair_at d n c) (pair_at d n s) (pair_at d n t)

abbrev pub value_at : Fraction → ℕ → RealValue → Value
value_at d n (number a) = real (a n)
value_at d n (statement s) = bool (pair_at d n s)
value_at d n (chosen c v w) = either (pair_at d n c) (value_at d n v) (value_at d n w)

module _ (d : Fraction) (n : ℕ) where
  pair-of-at : (v : RealValue) → pair_of (value_at d n v) ≡ pair_at d n (statement_of v)
  pair-of-at (number a) = refl
  pair-of-at (statement s) = refl
  pair-of-at (chosen c v w) = refl

  pairs-at : (vs : List RealValue) → map pair_of (map (value_at d n) vs) ≡ map (pair_at d n) (map statement_of vs)
  pairs-at [] = refl
  pairs-at (v ∷ vs) = ap₂ (λ (x : Pair) (y : List Pair). x ∷ y) (pair-of-at v) (pairs-at vs)

  all-at : (ss : List Statement) → pair_at d n (all_of ss) ≡ all_pair (map (pair_at d n) ss)
  all-at [] = refl
  all-at (s ∷ ss) = ap (and_pair (pair_at d n s)) (all-at ss)

  any-at : (ss : List Statement) → pair_at d n (any_of ss) ≡ any_pair (map (pair_at d n) ss)
  any-at [] = refl
  any-at (s ∷ ss) = ap (or_pair (pair_at d n s)) (any-at ss)

  implied-at : (ss : List Statement) → pair_at d n (implied ss) ≡ implies_pair (map (pair_at d n) ss)
  implied-at [] = refl
  implied-at (s ∷ []) = refl
  implied-at (s ∷ t ∷ ss) = ap (or_pair (not_pair (pair_at d n s))) (implied-at (t ∷ ss))

  denied-at : (ss : List Statement) → pair_at d n (first_denied ss) ≡ negation_of (map (pair_at d n) ss)
  denied-at [] = refl
  denied-at (s ∷ ss) = refl

  differ-from-at : (s : Statement) (ss : List Statement) → pair_at d n (from_left differ s ss) ≡ from_left xor_pair (pair_at d n s) (map (pair_at d n) ss)
  differ-from-at s [] = refl
  differ-from-at s (t ∷ ss) = differ-from-at (differ s t) ss

  differ-at : (ss : List Statement) → pair_at d n (first_and_rest differ yes ss) ≡ first_and_rest xor_pair true_pair (map (pair_at d n) ss)
  differ-at [] = refl
  differ-at (s ∷ ss) = differ-from-at s ss

  -- ---- arms

  arm-at : (f : Sequence → RealValue) (g : Fraction → Value) → ((a : Sequence) → value_at d n (f a) ≡ g (a n)) → (v : RealValue) → value_at d n (each_arm f v) ≡ lift_value g (value_at d n v)
  arm-at f g e (number a) = e a
  arm-at f g e (statement s) = e (λ k. zero_fraction)
  arm-at f g e (chosen c v w) = ap₂ (λ (x y : Value). either (pair_at d n c) x y) (arm-at f g e v) (arm-at f g e w)

  of-arm-at : (f : Sequence → Statement) (g : Fraction → Pair) → ((a : Sequence) → pair_at d n (f a) ≡ g (a n)) → (v : RealValue) → pair_at d n (of_arm f v) ≡ lift_pair g (value_at d n v)
  of-arm-at f g e (number a) = e a
  of-arm-at f g e (statement s) = e (λ k. zero_fraction)
  of-arm-at f g e (chosen c v w) = ap₂ (λ (x y : Pair). choice_pair (pair_at d n c) x y) (of-arm-at f g e v) (of-arm-at f g e w)

  step-at : (f : Fraction → Fraction → Fraction) (v w : RealValue) → value_at d n (step f v w) ≡ step_values f (value_at d n v) (value_at d n w)
  step-at f v w = arm-at (λ a. each_arm (λ b. number (λ k. f (a k) (b k))) w) (λ p. lift_value (λ q. real (f p q)) (value_at d n w))
      (λ a. arm-at (λ b. number (λ k. f (a k) (b k))) (λ q. real (f (a n) q)) (λ b. refl) w) v

  compared-at : (r : Relation) (v w : RealValue) → pair_at d n (compared r v w) ≡ compare_values (relation_at d r) (value_at d n v) (value_at d n w)
  compared-at r v w = of-arm-at (λ a. of_arm (λ b. compares r a b) w) (λ p. lift_pair (λ q. relation_at d r p q) (value_at d n w))
      (λ a. of-arm-at (λ b. compares r a b) (λ q. relation_at d r (a n) q) (λ b. refl) w) v

  steps-at : (f : Fraction → Fraction → Fraction) (v : RealValue) (vs : List RealValue) → value_at d n (from_left (step f) v vs) ≡ from_left (step_values f) (value_at d n v) (map (value_at d n) vs)
  steps-at f v [] = refl
  steps-at f v (w ∷ vs) = steps-at f (step f v w) vs ∙ ap (λ (x : Value). from_left (step_values f) x (map (value_at d n) vs)) (step-at f v w)

  all-steps-at : (f : Fraction → Fraction → Fraction) (vs : List RealValue) →
      value_at d n (first_and_rest (step f) (number (λ k. zero_fraction)) vs) ≡ first_and_rest (step_values f) (real zero_fraction) (map (value_at d n) vs)
  all-steps-at f [] = refl
  all-steps-at f (v ∷ vs) = steps-at f v vs

  subtraction-at : (vs : List RealValue) → value_at d n (subtraction vs) ≡ subtract_values (map (value_at d n) vs)
  subtraction-at [] = refl
  subtraction-at (v ∷ []) = arm-at (λ a. number (λ k. negated (a k))) (λ q. real (negated q)) (λ a. refl) v
  subtraction-at (v ∷ w ∷ vs) = steps-at difference_of v (w ∷ vs)

  -- ---- comparisons

  chain-at : (r : Relation) (vs : List RealValue) → pair_at d n (all_of (neighbours (compared r) vs)) ≡ all_pair (neighbours (compare_values (relation_at d r)) (map (value_at d n) vs))
  chain-at r vs = all-at (neighbours (compared r) vs) ∙ ap all_pair (neighbours-map (compared r) (compare_values (relation_at d r)) (value_at d n) (pair_at d n) (compared-at r) vs)

  apart-at : (vs : List RealValue) → pair_at d n (all_of (pairs (λ v w. deny (compared is_equal v w)) vs)) ≡ all_pair (pairs (differing_values d) (map (value_at d n) vs))
  apart-at vs = all-at (pairs (λ v w. deny (compared is_equal v w)) vs) ∙
      ap all_pair (pairs-map (λ v w. deny (compared is_equal v w)) (differing_values d) (value_at d n) (pair_at d n) (λ v w. ap not_pair (compared-at is_equal v w)) vs)

  agree-at : (vs : List RealValue) → pair_at d n (all_of (neighbours (λ a b. deny (differ a b)) (map statement_of vs))) ≡ all_pair (neighbours (λ a b. not_pair (xor_pair a b)) (map pair_of (map (value_at d n) vs)))
  agree-at vs = all-at (neighbours (λ a b. deny (differ a b)) (map statement_of vs)) ∙ ap all_pair (
      neighbours-map (λ a b. deny (differ a b)) (λ a b. not_pair (xor_pair a b)) (pair_at d n) (pair_at d n) (λ a b. refl) (map statement_of vs)
      ∙ ap (neighbours (λ a b. not_pair (xor_pair a b))) (sym (pairs-at vs)))

  differing-at : (vs : List RealValue) → pair_at d n (all_of (pairs differ (map statement_of vs))) ≡ all_pair (pairs xor_pair (map pair_of (map (value_at d n) vs)))
  differing-at vs = all-at (pairs differ (map statement_of vs)) ∙ ap all_pair (
      pairs-map differ xor_pair (pair_at d n) (pair_at d n) (λ a b. refl) (map statement_of vs)
      ∙ ap (pairs xor_pair) (sym (pairs-at vs)))

  equal-all-at : (vs : List RealValue) → pair_at d n (equal_all vs) ≡ equality_of d (map (value_at d n) vs)
  equal-all-at [] = refl
  equal-all-at (statement s ∷ vs) = agree-at (statement s ∷ vs)
  equal-all-at (number a ∷ vs) = chain-at is_equal (number a ∷ vs)
  equal-all-at (chosen c v w ∷ vs) = chain-at is_equal (chosen c v w ∷ vs)

  distinct-all-at : (vs : List RealValue) → pair_at d n (distinct_all vs) ≡ distinctness_of d (map (value_at d n) vs)
  distinct-all-at [] = refl
  distinct-all-at (statement s ∷ vs) = differing-at (statement s ∷ vs)
  distinct-all-at (number a ∷ vs) = apart-at (number a ∷ vs)
  distinct-all-at (chosen c v w ∷ vs) = apart-at (chosen c v w ∷ vs)

  arm-of-at : (c : RealValue) (v w : RealValue) → value_at d n (arm_of (statement_of c) v w) ≡ choice_value (pair_of (value_at d n c)) (value_at d n v) (value_at d n w)
  arm-of-at c (statement s) w = ap₂ (λ (x y : Pair). bool (choice_pair x (pair_at d n s) y)) (sym (pair-of-at c)) (sym (pair-of-at w))
  arm-of-at c (number a) w = ap (λ (x : Pair). either x (real (a n)) (value_at d n w)) (sym (pair-of-at c))
  arm-of-at c (chosen b u v) w = ap (λ (x : Pair). either x (value_at d n (chosen b u v)) (value_at d n w)) (sym (pair-of-at c))

  picked-at : (vs : List RealValue) → value_at d n (picked vs) ≡ choice_of (map (value_at d n) vs)
  picked-at [] = refl
  picked-at (c ∷ []) = refl
  picked-at (c ∷ v ∷ []) = refl
  picked-at (c ∷ v ∷ w ∷ vs) = arm-of-at c v w

  -- ---- operators

  on-pairs : (f : List Statement → Statement) (g : List Pair → Pair) → ((ss : List Statement) → pair_at d n (f ss) ≡ g (map (pair_at d n) ss)) →
      (vs : List RealValue) → pair_at d n (f (map statement_of vs)) ≡ g (map pair_of (map (value_at d n) vs))
  on-pairs f g e vs = e (map statement_of vs) ∙ ap g (sym (pairs-at vs))

  operation-at : (op : Operator) (vs : List RealValue) → value_at d n (real_operation op vs) ≡ operation d op (map (value_at d n) vs)
  operation-at truth vs = refl
  operation-at falsehood vs = refl
  operation-at negation vs = ap bool (on-pairs first_denied negation_of denied-at vs)
  operation-at conjunction vs = ap bool (on-pairs all_of all_pair all-at vs)
  operation-at disjunction vs = ap bool (on-pairs any_of any_pair any-at vs)
  operation-at implication vs = ap bool (on-pairs implied implies_pair implied-at vs)
  operation-at exclusive vs = ap bool (on-pairs (first_and_rest differ yes) (first_and_rest xor_pair true_pair) differ-at vs)
  operation-at equality vs = ap bool (equal-all-at vs)
  operation-at distinctness vs = ap bool (distinct-all-at vs)
  operation-at choice vs = picked-at vs
  operation-at minus vs = subtraction-at vs
  operation-at plus vs = all-steps-at sum_of vs
  operation-at times vs = all-steps-at product_of vs
  operation-at divide vs = all-steps-at quotient_of vs
  operation-at at_most_op vs = ap bool (chain-at is_at_most vs)
  operation-at below_op vs = ap bool (chain-at is_less vs)
  operation-at at_least_op vs = ap bool (chain-at is_at_least vs)
  operation-at above_op vs = ap bool (chain-at is_greater vs)

  -- ---- scripts

  abbrev Reads : RealValue → Value → Type 0
  Reads v w = value_at d n v ≡ w

  each-reads : (vs : List RealValue) (ws : List Value) → Each Reads vs ws → map (value_at d n) vs ≡ ws
  each-reads [] [] h = refl
  each-reads (v ∷ vs) (w ∷ ws) h = ap₂ (λ (x : Value) (y : List Value). x ∷ y) h.0 (each-reads vs ws h.1)
  each-reads [] (w ∷ ws) h = elim h [ ]
  each-reads (v ∷ vs) [] h = elim h [ ]

  reads-respects : Respects Reads over_reals (loosened d)
  reads-respects = record {
    literal = λ at digits more_digits. refl;
    named = λ at v w h. h;
    annotated = λ at v w h. h;
    apply = λ at op vs ws h. operation-at op vs ∙ ap (operation d op) (each-reads vs ws h);
    bind = λ at names vs ws v w h k. k;
    call = λ at vs ws v w h k. k;
    nothing = λ at why. refl;
  }

  coordinates-read : (point : List RealCoordinate) → Each Reads (map coordinate_of point) (map coordinate_value (nth_point n point))
  coordinates-read [] = tt
  coordinates-read (at_real x ∷ point) = (refl, coordinates-read point)
  coordinates-read (at_truth true ∷ point) = (refl, coordinates-read point)
  coordinates-read (at_truth false ∷ point) = (refl, coordinates-read point)

  pub claims_at : (point : List RealCoordinate) (script : List Command) →
      map (value_at d n) (claims over_reals [] (map coordinate_of point) script) ≡ claims (loosened d) [] (map coordinate_value (nth_point n point)) script
  claims_at point script = each-reads _ _ (claims_alike Reads over_reals (loosened d) reads-respects [] [] tt (map coordinate_of point) (map coordinate_value (nth_point n point)) (coordinates-read point) script)

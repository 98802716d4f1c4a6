-- Arithmetic makes of what trees say of bounds what their operator makes of the bounds: constants are folded where all
-- arguments are constants.
use Rattle.std.proofs.Common.{◌≡◌, ℕ, ◌<◌, List, [], ◌∷◌, ◌++◌, length, append_assoc, append-nil, Bool, true, false, cond, Option, Some, None, refl, ap, sym, ◌∙◌, subst, arith, ◌⊎◌, inl, inr, IsTrue, ℤ, ◌≤ℤ◌}
use borrow.Author.Differences.{ints}
use Rattle.dyadic.specs.Fraction.{Fraction, IsFraction, zero_fraction, negated, sum_of, difference_of, product_of, quotient_of, at_most}
use Rattle.dyadic.specs.Lowest.{reduced, sum_fits, product_fits}
use Rattle.dyadic.proofs.Equal.{◌≈◌, at_most_same, at_least_same, total, holds_le}
use Rattle.script_model.specs.Sexp.{Place}
use Rattle.script_model.specs.Reading.{Operator, minus, plus, times}
use Rattle.script_model.specs.Meaning.{Value, real, bool, either as either_value, fraction_of, from_left, first_and_rest, step_values, subtract_values, operation}
use Rattle.script_model.specs.Declared.{Bounding, known, constant_of, other, bounds, with_first, all_known, computed, alone, bounding_operation}
use Rattle.script_model.proofs.Related.{Each}
use Rattle.poly_graph.specs.Term.{Term, constant, variable, negate, add, multiply, square}
use Rattle.script_forms.specs.Terms.{Fault, Unfolded, term, refused, divisor_not_constant, constant_or, number_too_wide, ill_formed, add_tree, multiply_tree, subtract_tree, divide_tree, negate_tree, is_nought, inverse_of, zero_divisor, divisor_not_constant, same_term, steps, all_steps, Times, once, twice, twice_and_once, once_more, power, repeats, beside, gathered, gathered_with, powers_from, powers, product_tree}
use Rattle.script_forms.specs.Unfolded.{first_fault, takes, unless_refused, operation_tree, unfolded_operation}
use Rattle.script_forms.proofs.Means.{Means}
use Rattle.script_forms.proofs.Meaning.{respects}
use Rattle.term_build.specs.Steps.{as_constant, constants, added, multiplied}
use Rattle.term_build.specs.Pairs.{tree_at, trees_at}
use Rattle.term_build.proofs.Emits.{add_is, multiply_is}
use Rattle.declared_box.specs.Same.{SameNumber}
use Rattle.value_build.specs.Values.{Weighs}
use Rattle.value_build.proofs.Plain.{plain_trees}
use Rattle.value_build.proofs.Factors.{trees_both, length_factors}
use Rattle.value_build.specs.Weights.{term_at, WeighsEach}
use Rattle.value_build.specs.Arithmetic.{operator_of_step, tree_of_step}
use Rattle.value_build.specs.declared.arithmetic.Step.{Step}
use Rattle.value_build.specs.declared.arithmetic.Step.TheVariants.{Add, Subtract, Multiply, Divide}

-- ---- the same number

le-antisymmetric : (a b : ℤ) → a ≤ℤ b → b ≤ℤ a → a ≡ b
le-antisymmetric a b h k = grind (arith, ints, h, k)

pub same_is : (p q : Fraction) → IsTrue (at_most p q) → IsTrue (at_most q p) → p ≈ q
unfolding at_most
same_is p q h k = record { same = le-antisymmetric _ _ (holds_le _ _ h) (holds_le _ _ k) }

reflexive : (q : Fraction) → IsTrue (at_most q q)
reflexive q = elim (total q q) [ inl h ↦ h | inr h ↦ h ]

pub is_same : (p q : Fraction) → IsFraction p → IsFraction q → p ≈ q → SameNumber p q
is_same p q f g h = record {
  first = f;
  second = g;
  below = subst (λ (b : Bool). IsTrue b) (sym (at_most_same q f g h)) (reflexive q);
  above = subst (λ (b : Bool). IsTrue b) (sym (at_least_same q f g h)) (reflexive q);
}

-- ---- trees that are constants

-- the tree is a constant whose number is known
pub record IsKnownTree (t : Term) (b : Bounding) : Type 0 where
  pub number : Fraction
  pub written : Fraction
  pub bounding : b ≡ known number
  pub tree : t ≡ constant written
  pub same : SameNumber number written

-- or it is another, whose bounding is no number
abbrev pub IsUnknown : Term → Bounding → Type 0
IsUnknown t b = (as_constant t ≡ None) × ((bs : List Bounding) → all_known (b ∷ bs) ≡ None)

pub known_or : (t : Term) (b : Bounding) → Weighs t b → IsKnownTree t b ⊎ IsUnknown t b
known_or (constant q) b h = inl (record { number = h.0; written = q; bounding = h.1; tree = refl; same = h.2 })
known_or (variable axis) b h = inr (refl, λ bs. ap (λ x. all_known (x ∷ bs)) h)
known_or (negate t) b h = inr (refl, λ bs. ap (λ x. all_known (x ∷ bs)) h)
known_or (add t u) b h = inr (refl, λ bs. ap (λ x. all_known (x ∷ bs)) h)
known_or (multiply t u) b h = inr (refl, λ bs. ap (λ x. all_known (x ∷ bs)) h)
known_or (square t) b h = inr (refl, λ bs. ap (λ x. all_known (x ∷ bs)) h)

-- ---- steps

-- a step is a tree, or refused; of constants it is a constant, of others no constant
pub record IsStep (f : Term → Term → Unfolded) : Type 0 where
  pub answers : (t u : Term) → ((r : Term) × (f t u ≡ term r)) ⊎ ((x : Fault) × (f t u ≡ refused x))
  pub folds : (p q : Fraction) (r : Term) → f (constant p) (constant q) ≡ term r → (c : Fraction) × (r ≡ constant c)
  pub joins : (t u r : Term) → constants t u ≡ None → f t u ≡ term r → Weighs r other

term-is : (t u : Term) → term t ≡ term u → t ≡ u
term-is t u e = cc

constant-or-answers : (at : Place) (b : Bool) (q : Fraction) → ((r : Term) × (constant_or at b q ≡ term r)) ⊎ ((x : Fault) × (constant_or at b q ≡ refused x))
constant-or-answers at true q = inl (constant (reduced q), refl)
constant-or-answers at false q = inr (number_too_wide at, refl)

constant-or-folds : (at : Place) (b : Bool) (q : Fraction) (r : Term) → constant_or at b q ≡ term r → (c : Fraction) × (r ≡ constant c)
constant-or-folds at true q r e = (reduced q, sym (term-is (constant (reduced q)) r e))
constant-or-folds at false q r e = cc

added-answers : (at : Place) (t u : Term) (o : Option (Fraction × Fraction)) → ((r : Term) × (added at t u o ≡ term r)) ⊎ ((x : Fault) × (added at t u o ≡ refused x))
added-answers at t u None = inl (add t u, refl)
added-answers at t u (Some (p, q)) = constant-or-answers at (sum_fits p q) (sum_of p q)

is-answer : (u v : Unfolded) → u ≡ v → ((r : Term) × (v ≡ term r)) ⊎ ((x : Fault) × (v ≡ refused x)) → ((r : Term) × (u ≡ term r)) ⊎ ((x : Fault) × (u ≡ refused x))
is-answer u v e h = subst (λ (w : Unfolded). ((r : Term) × (w ≡ term r)) ⊎ ((x : Fault) × (w ≡ refused x))) (sym e) h

pub add_step : (at : Place) → IsStep (add_tree at)
add_step at = record {
  answers = λ t u. is-answer (add_tree at t u) (added at t u (constants t u)) (add_is at t u) (added-answers at t u (constants t u));
  folds = λ p q r e. constant-or-folds at (sum_fits p q) (sum_of p q) r e;
  joins = λ t u r n e. subst (λ (x : Term). Weighs x other) (term-is (add t u) r (sym (ap (added at t u) n) ∙ sym (add_is at t u) ∙ e)) refl;
}

multiplied-answers : (at : Place) (t u : Term) (o : Option (Fraction × Fraction)) → ((r : Term) × (multiplied at t u o ≡ term r)) ⊎ ((x : Fault) × (multiplied at t u o ≡ refused x))
multiplied-answers at t u None = inl (cond (same_term t u) (square t) (multiply t u), refl)
multiplied-answers at t u (Some (p, q)) = constant-or-answers at (product_fits p q) (product_of p q)

product-weighs : (b : Bool) (t u : Term) → Weighs (cond b (square t) (multiply t u)) other
product-weighs true t u = refl
product-weighs false t u = refl

pub multiply_step : (at : Place) → IsStep (multiply_tree at)
multiply_step at = record {
  answers = λ t u. is-answer (multiply_tree at t u) (multiplied at t u (constants t u)) (multiply_is at t u) (multiplied-answers at t u (constants t u));
  folds = λ p q r e. constant-or-folds at (product_fits p q) (product_of p q) r e;
  joins = λ t u r n e. subst (λ (x : Term). Weighs x other) (term-is (cond (same_term t u) (square t) (multiply t u)) r (sym (ap (multiplied at t u) n) ∙ sym (multiply_is at t u) ∙ e)) (product-weighs (same_term t u) t u);
}

opposite-apart : (t u : Term) → constants t u ≡ None → constants t (negate_tree u) ≡ None
opposite-apart (constant p) (constant q) e = cc
opposite-apart (constant p) (variable i) e = refl
opposite-apart (constant p) (negate u) e = refl
opposite-apart (constant p) (add u v) e = refl
opposite-apart (constant p) (multiply u v) e = refl
opposite-apart (constant p) (square u) e = refl
opposite-apart (variable i) u e = refl
opposite-apart (negate t) u e = refl
opposite-apart (add t t') u e = refl
opposite-apart (multiply t t') u e = refl
opposite-apart (square t) u e = refl

pub subtract_step : (at : Place) → IsStep (subtract_tree at)
subtract_step at = record {
  answers = λ t u. (add_step at).answers t (negate_tree u);
  folds = λ p q r e. (add_step at).folds p (negated q) r e;
  joins = λ t u r n e. (add_step at).joins t (negate_tree u) r (opposite-apart t u n) e;
}

quotient-answers : (at : Place) (t : Term) (q : Fraction) (b : Bool) → let u = cond b (refused (zero_divisor at)) (multiply_tree at t (constant (inverse_of q))) in ((r : Term) × (u ≡ term r)) ⊎ ((x : Fault) × (u ≡ refused x))
quotient-answers at t q true = inr (zero_divisor at, refl)
quotient-answers at t q false = (multiply_step at).answers t (constant (inverse_of q))

divide-answers : (at : Place) (t u : Term) → ((r : Term) × (divide_tree at t u ≡ term r)) ⊎ ((x : Fault) × (divide_tree at t u ≡ refused x))
divide-answers at t (constant q) = quotient-answers at t q (is_nought q)
divide-answers at t (variable i) = inr (divisor_not_constant at, refl)
divide-answers at t (negate u) = inr (divisor_not_constant at, refl)
divide-answers at t (add u v) = inr (divisor_not_constant at, refl)
divide-answers at t (multiply u v) = inr (divisor_not_constant at, refl)
divide-answers at t (square u) = inr (divisor_not_constant at, refl)

quotient-folds : (at : Place) (p q : Fraction) (r : Term) (b : Bool) → cond b (refused (zero_divisor at)) (multiply_tree at (constant p) (constant (inverse_of q))) ≡ term r → (c : Fraction) × (r ≡ constant c)
quotient-folds at p q r true e = cc
quotient-folds at p q r false e = (multiply_step at).folds p (inverse_of q) r e

quotient-joins : (at : Place) (t : Term) (q : Fraction) (r : Term) (b : Bool) → constants t (constant (inverse_of q)) ≡ None → cond b (refused (zero_divisor at)) (multiply_tree at t (constant (inverse_of q))) ≡ term r → Weighs r other
quotient-joins at t q r true n e = cc
quotient-joins at t q r false n e = (multiply_step at).joins t (constant (inverse_of q)) r n e

other-constant : (t : Term) (p q : Fraction) → constants t (constant p) ≡ None → constants t (constant q) ≡ None
other-constant (constant c) p q e = cc
other-constant (variable i) p q e = refl
other-constant (negate t) p q e = refl
other-constant (add t u) p q e = refl
other-constant (multiply t u) p q e = refl
other-constant (square t) p q e = refl

divide-joins : (at : Place) (t u r : Term) → constants t u ≡ None → divide_tree at t u ≡ term r → Weighs r other
divide-joins at t (constant q) r n e = quotient-joins at t q r (is_nought q) (other-constant t q (inverse_of q) n) e
divide-joins at t (variable i) r n e = cc
divide-joins at t (negate u) r n e = cc
divide-joins at t (add u v) r n e = cc
divide-joins at t (multiply u v) r n e = cc
divide-joins at t (square u) r n e = cc

pub divide_step : (at : Place) → IsStep (divide_tree at)
divide_step at = record { answers = divide-answers at; folds = λ p q r e. quotient-folds at p q r (is_nought q) e; joins = divide-joins at }

pub is_step : (s : Step) (at : Place) → IsStep (tree_of_step s at)
is_step Add at = add_step at
is_step Subtract at = subtract_step at
is_step Multiply at = multiply_step at
is_step Divide at = divide_step at

-- ---- several steps

refused-steps : (f : Term → Term → Unfolded) (x : Fault) (us : List Unfolded) → steps f (refused x) us ≡ refused x
refused-steps f x [] = refl
refused-steps f x (u ∷ us) = refused-steps f x us

-- the next step is a tree too, where all are
next-tree : (f : Term → Term → Unfolded) → IsStep f → (t u : Term) (us : List Unfolded) (r : Term) → steps f (f t u) us ≡ term r → (s : Term) × (f t u ≡ term s) × (steps f (term s) us ≡ term r)
next-tree f i t u us r e = elim (i.answers t u) [
  | inl h ↦ (h.0, h.1, ap (λ x. steps f x us) (sym h.1) ∙ e)
  | inr h ↦ let k : refused h.0 ≡ term r = sym (refused-steps f h.0 us) ∙ ap (λ x. steps f x us) (sym h.1) ∙ e in cc
]

apart-left : (t u : Term) → as_constant t ≡ None → constants t u ≡ None
apart-left (constant c) u e = cc
apart-left (variable i) u e = refl
apart-left (negate t) u e = refl
apart-left (add t t') u e = refl
apart-left (multiply t t') u e = refl
apart-left (square t) u e = refl

apart-right : (p : Fraction) (u : Term) → as_constant u ≡ None → constants (constant p) u ≡ None
apart-right p (constant c) e = cc
apart-right p (variable i) e = refl
apart-right p (negate t) e = refl
apart-right p (add t t') e = refl
apart-right p (multiply t t') e = refl
apart-right p (square t) e = refl

other-apart : (t : Term) → Weighs t other → as_constant t ≡ None
other-apart (constant c) h = let e = h.1 in cc
other-apart (variable i) h = refl
other-apart (negate t) h = refl
other-apart (add t u) h = refl
other-apart (multiply t u) h = refl
other-apart (square t) h = refl

other-steps : (f : Term → Term → Unfolded) → IsStep f → (ts : List Term) (t : Term) (ks : List ℕ) (r : Term) → Weighs t other → steps f (term t) (trees_at ts ks) ≡ term r → Weighs r other
other-steps f i ts t [] r h e = subst (λ (x : Term). Weighs x other) (term-is t r e) h
other-steps f i ts t (k ∷ ks) r h e = let n = next-tree f i t (term_at ts k) (trees_at ts ks) r e in
    other-steps f i ts n.0 ks r (i.joins t (term_at ts k) n.0 (apart-left t (term_at ts k) (other-apart t h)) n.1) n.2

-- a first step of trees that are not both constants
apart-steps : (f : Term → Term → Unfolded) → IsStep f → (ts : List Term) (t : Term) (k : ℕ) (ks : List ℕ) (r : Term) → constants t (term_at ts k) ≡ None → steps f (term t) (trees_at ts (k ∷ ks)) ≡ term r → Weighs r other
apart-steps f i ts t k ks r n e = let m = next-tree f i t (term_at ts k) (trees_at ts ks) r e in other-steps f i ts m.0 ks r (i.joins t (term_at ts k) m.0 n m.1) m.2

-- from a constant on, where all that follows is known
first-none : (q : Fraction) (x : Option (List Value)) → with_first q x ≡ None → x ≡ None
first-none q None e = refl
first-none q (Some qs) e = cc

first-some : (q : Fraction) (x : Option (List Value)) (qs : List Value) → with_first q x ≡ Some qs → (rest : List Value) × (x ≡ Some rest) × (qs ≡ real q ∷ rest)
first-some q None qs e = cc
first-some q (Some rest) qs e = (rest, refl, cc)

known-steps : (f : Term → Term → Unfolded) → IsStep f → (ts : List Term) (p : Fraction) (ks : List ℕ) (bs : List Bounding) (qs : List Value) (r : Term) → WeighsEach ts ks bs → all_known bs ≡ Some qs →
    steps f (term (constant p)) (trees_at ts ks) ≡ term r → (c : Fraction) × (r ≡ constant c)
known-steps f i ts p [] [] qs r h a e = (p, sym (term-is (constant p) r e))
known-steps f i ts p (k ∷ ks) (b ∷ bs) qs r h a e = let n = next-tree f i (constant p) (term_at ts k) (trees_at ts ks) r e in
    elim (known_or (term_at ts k) b h.0) [
      | inl w ↦ let d = i.folds p w.written n.0 (ap (λ x. f (constant p) x) (sym w.tree) ∙ n.1) in
          let s = first-some w.number (all_known bs) qs (ap (λ x. all_known (x ∷ bs)) (sym w.bounding) ∙ a) in
          known-steps f i ts d.0 ks bs s.0 r h.1 s.1 (ap (λ x. steps f (term x) (trees_at ts ks)) (sym d.1) ∙ n.2)
      | inr w ↦ let o = w.1 bs in cc
    ]
known-steps f i ts p [] (b ∷ bs) qs r h a e = elim h [ ]
known-steps f i ts p (k ∷ ks) [] qs r h a e = elim h [ ]

unknown-steps : (f : Term → Term → Unfolded) → IsStep f → (ts : List Term) (p : Fraction) (ks : List ℕ) (bs : List Bounding) (r : Term) → WeighsEach ts ks bs → all_known bs ≡ None →
    steps f (term (constant p)) (trees_at ts ks) ≡ term r → Weighs r other
unknown-steps f i ts p [] [] r h a e = cc
unknown-steps f i ts p (k ∷ ks) (b ∷ bs) r h a e = elim (known_or (term_at ts k) b h.0) [
  | inl w ↦ let n = next-tree f i (constant p) (term_at ts k) (trees_at ts ks) r e in
      let d = i.folds p w.written n.0 (ap (λ x. f (constant p) x) (sym w.tree) ∙ n.1) in
      unknown-steps f i ts d.0 ks bs r h.1 (first-none w.number (all_known bs) (ap (λ x. all_known (x ∷ bs)) (sym w.bounding) ∙ a)) (ap (λ x. steps f (term x) (trees_at ts ks)) (sym d.1) ∙ n.2)
  | inr w ↦ apart-steps f i ts (constant p) k ks r (apart-right p (term_at ts k) w.0) e
]
unknown-steps f i ts p [] (b ∷ bs) r h a e = elim h [ ]
unknown-steps f i ts p (k ∷ ks) [] r h a e = elim h [ ]

-- of two trees and more, all known
pub all_constant : (f : Term → Term → Unfolded) → IsStep f → (ts : List Term) (k : ℕ) (ks : List ℕ) (bs : List Bounding) (qs : List Value) (r : Term) → WeighsEach ts (k ∷ ks) bs → all_known bs ≡ Some qs →
    steps f (tree_at ts k) (trees_at ts ks) ≡ term r → (c : Fraction) × (r ≡ constant c)
all_constant f i ts k ks (b ∷ bs) qs r h a e = elim (known_or (term_at ts k) b h.0) [
  | inl w ↦ let s = first-some w.number (all_known bs) qs (ap (λ x. all_known (x ∷ bs)) (sym w.bounding) ∙ a) in
      known-steps f i ts w.written ks bs s.0 r h.1 s.1 (ap (λ x. steps f (term x) (trees_at ts ks)) (sym w.tree) ∙ e)
  | inr w ↦ let o = w.1 bs in cc
]
all_constant f i ts k ks [] qs r h a e = elim h [ ]

-- not all known
pub not_constant : (f : Term → Term → Unfolded) → IsStep f → (ts : List Term) (k j : ℕ) (ks : List ℕ) (bs : List Bounding) (r : Term) → WeighsEach ts (k ∷ j ∷ ks) bs → all_known bs ≡ None →
    steps f (tree_at ts k) (trees_at ts (j ∷ ks)) ≡ term r → Weighs r other
not_constant f i ts k j ks (b ∷ bs) r h a e = elim (known_or (term_at ts k) b h.0) [
  | inl w ↦ unknown-steps f i ts w.written (j ∷ ks) bs r h.1 (first-none w.number (all_known bs) (ap (λ x. all_known (x ∷ bs)) (sym w.bounding) ∙ a)) (ap (λ x. steps f (term x) (trees_at ts (j ∷ ks))) (sym w.tree) ∙ e)
  | inr w ↦ apart-steps f i ts (term_at ts k) j ks r (apart-left (term_at ts k) (term_at ts j) w.0) e
]
not_constant f i ts k j ks [] r h a e = elim h [ ]

-- ---- values

means-each : (ts : List Term) (ks : List ℕ) (bs : List Bounding) (qs : List Value) → WeighsEach ts ks bs → all_known bs ≡ Some qs → Each (Means zero_fraction []) qs (trees_at ts ks)
means-each ts [] [] qs h a = subst (λ (vs : List Value). Each (Means zero_fraction []) vs []) (some-is a) tt
  where
    some-is : {xs ys : List Value} → Some xs ≡ Some ys → xs ≡ ys
    some-is e = cc
means-each ts (k ∷ ks) (b ∷ bs) qs h a = elim (known_or (term_at ts k) b h.0) [
  | inl w ↦ let s = first-some w.number (all_known bs) qs (ap (λ x. all_known (x ∷ bs)) (sym w.bounding) ∙ a) in
      subst (λ (vs : List Value). Each (Means zero_fraction []) vs (trees_at ts (k ∷ ks))) (sym s.2) (
        subst (λ (t : Term). Means zero_fraction [] (real w.number) (term t)) (sym w.tree)
            (record { one = w.same.first; other = w.same.second; equal = same_is w.number w.written w.same.below w.same.above }),
        means-each ts ks bs s.0 h.1 s.1,
      )
  | inr w ↦ let o = w.1 bs in cc
]
means-each ts [] (b ∷ bs) qs h a = elim h [ ]
means-each ts (k ∷ ks) [] qs h a = elim h [ ]

pub no_fault : (ts : List Term) (ks : List ℕ) → first_fault (trees_at ts ks) ≡ None
no_fault ts [] = refl
no_fault ts (k ∷ ks) = no_fault ts ks

pub operation_is : (at : Place) (op : Operator) (us : List Unfolded) → first_fault us ≡ None → takes op us ≡ true → operation_tree at op us ≡ unfolded_operation at op us
operation_is at op us f t = ap (λ o. unless_refused o (cond (takes op us) (unfolded_operation at op us) (refused (ill_formed at)))) f ∙ ap (λ b. cond b (unfolded_operation at op us) (refused (ill_formed at))) t

-- the value of a constant that was made
value-of : (v : Value) (c : Fraction) → Means zero_fraction [] (real (fraction_of v)) (term (constant c)) → Weighs (constant c) (known (fraction_of v))
value-of v c h = (fraction_of v, refl, is_same (fraction_of v) c h.one h.other h.equal)

real-of : (v : Value) (u : Unfolded) (q : Fraction) → v ≡ real q → Means zero_fraction [] v u → Means zero_fraction [] (real (fraction_of v)) u
real-of v u q e h = subst (λ (w : Value). Means zero_fraction [] (real (fraction_of w)) u) (sym e) (subst (λ (w : Value). Means zero_fraction [] w u) e h)

-- values of constants
abbrev AreReal : List Value → Type 0
AreReal [] = Unit {0}
AreReal (real q ∷ vs) = AreReal vs
AreReal (v ∷ vs) = ⊥

abbrev IfReal : Option (List Value) → Type 0
IfReal None = Unit {0}
IfReal (Some vs) = AreReal vs

real-first : (q : Fraction) (o : Option (List Value)) → IfReal o → IfReal (with_first q o)
real-first q None h = tt
real-first q (Some vs) h = h

all-real : (bs : List Bounding) → IfReal (all_known bs)
all-real [] = tt
all-real (known q ∷ bs) = real-first q (all_known bs) (all-real bs)
all-real (constant_of i ∷ bs) = tt
all-real (other ∷ bs) = tt
all-real (bounds xs ∷ bs) = tt

real-steps : (f : Fraction → Fraction → Fraction) (q : Fraction) (vs : List Value) → AreReal vs → (r : Fraction) × (from_left (step_values f) (real q) vs ≡ real r)
real-steps f q [] h = (q, refl)
real-steps f q (real p ∷ vs) h = real-steps f (f q p) vs h
real-steps f q (bool t ∷ vs) h = elim h [ ]
real-steps f q (either_value c v w ∷ vs) h = elim h [ ]

real-all : (f : Fraction → Fraction → Fraction) (vs : List Value) → AreReal vs → (r : Fraction) × (first_and_rest (step_values f) (real zero_fraction) vs ≡ real r)
real-all f [] h = (zero_fraction, refl)
real-all f (real q ∷ vs) h = real-steps f q vs h
real-all f (bool t ∷ vs) h = elim h [ ]
real-all f (either_value c v w ∷ vs) h = elim h [ ]

real-difference : (vs : List Value) → AreReal vs → (r : Fraction) × (subtract_values vs ≡ real r)
real-difference [] h = (zero_fraction, refl)
real-difference (real q ∷ []) h = (negated q, refl)
real-difference (real q ∷ v ∷ vs) h = real-steps difference_of q (v ∷ vs) h
real-difference (bool t ∷ vs) h = elim h [ ]
real-difference (either_value c v w ∷ vs) h = elim h [ ]

is-real : (s : Step) (qs : List Value) → AreReal qs → (q : Fraction) × (operation zero_fraction (operator_of_step s) qs ≡ real q)
is-real Add qs h = real-all sum_of qs h
is-real Subtract qs h = real-difference qs h
is-real Multiply qs h = real-all product_of qs h
is-real Divide qs h = real-all quotient_of qs h

-- the number of constants that were folded
folded : (s : Step) (at : Place) (ts : List Term) (ks : List ℕ) (bs : List Bounding) (qs : List Value) (r : Term) (c : Fraction) → WeighsEach ts ks bs → all_known bs ≡ Some qs → takes (operator_of_step s) (trees_at ts ks) ≡ true →
    unfolded_operation at (operator_of_step s) (trees_at ts ks) ≡ term r → r ≡ constant c → Weighs r (known (fraction_of (operation zero_fraction (operator_of_step s) qs)))
folded s at ts ks bs qs r c h a t e d =
    let op = operator_of_step s in let v = operation zero_fraction op qs in
    let m = (respects zero_fraction []).apply at op qs (trees_at ts ks) (means-each ts ks bs qs h a) in
    let u : operation_tree at op (trees_at ts ks) ≡ term (constant c) = operation_is at op (trees_at ts ks) (no_fault ts ks) t ∙ e ∙ ap (λ (x : Term). term x) d in
    let n = is-real s qs (subst IfReal a (all-real bs)) in
    subst (λ (x : Term). Weighs x (known (fraction_of v))) (sym d)
    (value-of v c (real-of v (term (constant c)) n.0 n.1 (subst (λ (w : Unfolded). Means zero_fraction [] v w) u m)))

-- of two trees and more
several : (s : Step) (at : Place) (ts : List Term) (k j : ℕ) (ks : List ℕ) (bs : List Bounding) (r : Term) → WeighsEach ts (k ∷ j ∷ ks) bs → takes (operator_of_step s) (trees_at ts (k ∷ j ∷ ks)) ≡ true →
    unfolded_operation at (operator_of_step s) (trees_at ts (k ∷ j ∷ ks)) ≡ steps (tree_of_step s at) (tree_at ts k) (trees_at ts (j ∷ ks)) →
    unfolded_operation at (operator_of_step s) (trees_at ts (k ∷ j ∷ ks)) ≡ term r → (x : Option (List Value)) → all_known bs ≡ x → Weighs r (computed (operator_of_step s) x)
several s at ts k j ks bs r h t g e None a = not_constant (tree_of_step s at) (is_step s at) ts k j ks bs r h a (sym g ∙ e)
several s at ts k j ks bs r h t g e (Some qs) a = let d = all_constant (tree_of_step s at) (is_step s at) ts k (j ∷ ks) bs qs r h a (sym g ∙ e) in
    folded s at ts (k ∷ j ∷ ks) bs qs r d.0 h a t e d.1

-- ---- products

power-apart : (n : Times) (t : Term) → as_constant t ≡ None → as_constant (power n t) ≡ None
power-apart once t e = e
power-apart (twice n) t e = refl
power-apart (twice_and_once n) t e = refl

more-weighs : (n : Times) (t : Term) → Weighs (power (once_more n) t) other
more-weighs once t = refl
more-weighs (twice n) t = refl
more-weighs (twice_and_once n) t = refl

no-repeats : (t u : Term) (c : Fraction) → t ≡ constant c → repeats t u ≡ false
no-repeats t u c e = ap (λ x. repeats x u) e

-- whether the next tree is one more of the same factor
by-repeats : (P : List Unfolded → Type 0) (b : Bool) (us vs : List Unfolded) → P us → P vs → P (cond b us vs)
by-repeats P true us vs h k = h
by-repeats P false us vs h k = k

-- from a tree that is no constant on
apart-powers : (f : Term → Term → Unfolded) → IsStep f → (ts : List Term) (t u : Term) (n : Times) (ks : List ℕ) (r : Term) → as_constant t ≡ None → steps f (term t) (powers_from u n (trees_at ts ks)) ≡ term r → Weighs r other
apart-powers f i ts t u n [] r h e = i.joins t (power n u) r (apart-left t (power n u) h) e
apart-powers f i ts t u n (k ∷ ks) r h e =
    by-repeats (λ (us : List Unfolded). steps f (term t) us ≡ term r → Weighs r other) (repeats u (term_at ts k)) (powers_from u (once_more n) (trees_at ts ks)) (term (power n u) ∷ powers_from (term_at ts k) once (trees_at ts ks))
    (λ d. apart-powers f i ts t u (once_more n) ks r h d)
    (λ d. let m = next-tree f i t (power n u) (powers_from (term_at ts k) once (trees_at ts ks)) r d in
    apart-powers f i ts m.0 (term_at ts k) once ks r (other-apart m.0 (i.joins t (power n u) m.0 (apart-left t (power n u) h) m.1)) m.2)
    e

-- from a power on
power-powers : (f : Term → Term → Unfolded) → IsStep f → (ts : List Term) (u : Term) (n : Times) (ks : List ℕ) (r : Term) → as_constant u ≡ None → Weighs (power n u) other → all_steps f (powers_from u n (trees_at ts ks)) ≡ term r → Weighs r other
power-powers f i ts u n [] r h w e = subst (λ (x : Term). Weighs x other) (term-is (power n u) r e) w
power-powers f i ts u n (k ∷ ks) r h w e =
    by-repeats (λ (us : List Unfolded). all_steps f us ≡ term r → Weighs r other) (repeats u (term_at ts k)) (powers_from u (once_more n) (trees_at ts ks)) (term (power n u) ∷ powers_from (term_at ts k) once (trees_at ts ks))
    (λ d. power-powers f i ts u (once_more n) ks r h (more-weighs n u) d)
    (λ d. apart-powers f i ts (power n u) (term_at ts k) once ks r (power-apart n u h) d)
    e

-- from a constant on, before a tree that is none
constant-powers : (f : Term → Term → Unfolded) → IsStep f → (ts : List Term) (p : Fraction) (u : Term) (n : Times) (ks : List ℕ) (r : Term) → as_constant u ≡ None → steps f (term (constant p)) (powers_from u n (trees_at ts ks)) ≡ term r → Weighs r other
constant-powers f i ts p u n [] r h e = i.joins (constant p) (power n u) r (apart-right p (power n u) (power-apart n u h)) e
constant-powers f i ts p u n (k ∷ ks) r h e =
    by-repeats (λ (us : List Unfolded). steps f (term (constant p)) us ≡ term r → Weighs r other) (repeats u (term_at ts k)) (powers_from u (once_more n) (trees_at ts ks)) (term (power n u) ∷ powers_from (term_at ts k) once (trees_at ts ks))
    (λ d. constant-powers f i ts p u (once_more n) ks r h d)
    (λ d. let m = next-tree f i (constant p) (power n u) (powers_from (term_at ts k) once (trees_at ts ks)) r d in
    apart-powers f i ts m.0 (term_at ts k) once ks r (other-apart m.0 (i.joins (constant p) (power n u) m.0 (apart-right p (power n u) (power-apart n u h)) m.1)) m.2)
    e

-- a constant is a power for itself
constant-first : (ts : List Term) (t : Term) (c : Fraction) (k : ℕ) (ks : List ℕ) → t ≡ constant c → powers_from t once (trees_at ts (k ∷ ks)) ≡ term t ∷ powers_from (term_at ts k) once (trees_at ts ks)
constant-first ts t c k ks e = ap (λ b. cond b (powers_from t (once_more once) (trees_at ts ks)) (term t ∷ powers_from (term_at ts k) once (trees_at ts ks))) (no-repeats t (term_at ts k) c e)

unknown-powers : (f : Term → Term → Unfolded) → IsStep f → (ts : List Term) (p : Fraction) (k : ℕ) (ks : List ℕ) (bs : List Bounding) (r : Term) → WeighsEach ts (k ∷ ks) bs → all_known bs ≡ None →
    steps f (term (constant p)) (powers_from (term_at ts k) once (trees_at ts ks)) ≡ term r → Weighs r other
unknown-powers f i ts p k [] (b ∷ []) r h a e = elim (known_or (term_at ts k) b h.0) [
  | inl w ↦ let n = first-none w.number (all_known []) (ap (λ x. all_known (x ∷ [])) (sym w.bounding) ∙ a) in cc
  | inr w ↦ constant-powers f i ts p (term_at ts k) once [] r w.0 e
]
unknown-powers f i ts p k (j ∷ ks) (b ∷ bs) r h a e = elim (known_or (term_at ts k) b h.0) [
  | inl w ↦ let m = next-tree f i (constant p) (term_at ts k) (powers_from (term_at ts j) once (trees_at ts ks)) r
      (ap (λ us. steps f (term (constant p)) us) (sym (constant-first ts (term_at ts k) w.written j ks w.tree)) ∙ e) in
      let q = i.folds p w.written m.0 (ap (λ x. f (constant p) x) (sym w.tree) ∙ m.1) in
      unknown-powers f i ts q.0 j ks bs r h.1 (first-none w.number (all_known bs) (ap (λ x. all_known (x ∷ bs)) (sym w.bounding) ∙ a))
      (ap (λ x. steps f (term x) (powers_from (term_at ts j) once (trees_at ts ks))) (sym q.1) ∙ m.2)
  | inr w ↦ constant-powers f i ts p (term_at ts k) once (j ∷ ks) r w.0 e
]
unknown-powers f i ts p k ks [] r h a e = elim h [ ]
unknown-powers f i ts p k [] (b ∷ c ∷ bs) r h a e = elim h.1 [ ]

-- of two trees and more, not all known
other-product : (f : Term → Term → Unfolded) → IsStep f → (ts : List Term) (k j : ℕ) (ks : List ℕ) (bs : List Bounding) (r : Term) → WeighsEach ts (k ∷ j ∷ ks) bs → all_known bs ≡ None →
    all_steps f (powers (trees_at ts (k ∷ j ∷ ks))) ≡ term r → Weighs r other
other-product f i ts k j ks [] r h a e = elim h [ ]
other-product f i ts k j ks (b ∷ bs) r h a e = elim (known_or (term_at ts k) b h.0) [
  | inl w ↦ let g = ap (λ us. all_steps f us) (sym (constant-first ts (term_at ts k) w.written j ks w.tree)) ∙ e in
      unknown-powers f i ts w.written j ks bs r h.1 (first-none w.number (all_known bs) (ap (λ x. all_known (x ∷ bs)) (sym w.bounding) ∙ a))
      (ap (λ x. steps f (term x) (powers_from (term_at ts j) once (trees_at ts ks))) (sym w.tree) ∙ g)
  | inr w ↦ by-repeats (λ (us : List Unfolded). all_steps f us ≡ term r → Weighs r other) (repeats (term_at ts k) (term_at ts j)) (powers_from (term_at ts k) (twice once) (trees_at ts ks)) (term (term_at ts k) ∷ powers_from (term_at ts j) once (trees_at ts ks))
      (λ d. power-powers f i ts (term_at ts k) (twice once) ks r w.0 refl d)
      (λ d. apart-powers f i ts (term_at ts k) (term_at ts j) once ks r w.0 d)
      e
]

-- constants are no factors of powers
known-powers : (ts : List Term) (k : ℕ) (ks : List ℕ) (bs : List Bounding) (qs : List Value) → WeighsEach ts (k ∷ ks) bs → all_known bs ≡ Some qs → powers_from (term_at ts k) once (trees_at ts ks) ≡ tree_at ts k ∷ trees_at ts ks
known-powers ts k [] bs qs h a = refl
known-powers ts k (j ∷ ks) [] qs h a = elim h [ ]
known-powers ts k (j ∷ ks) (b ∷ bs) qs h a = elim (known_or (term_at ts k) b h.0) [
  | inl w ↦ let s = first-some w.number (all_known bs) qs (ap (λ x. all_known (x ∷ bs)) (sym w.bounding) ∙ a) in
      constant-first ts (term_at ts k) w.written j ks w.tree ∙ ap (λ us. tree_at ts k ∷ us) (known-powers ts j ks bs s.0 h.1 s.1)
  | inr w ↦ let o = w.1 bs in cc
]

-- ---- gathered factors

-- where not all are known, they are not in another order
swap-none : (b c : Bounding) (bs : List Bounding) → all_known (b ∷ c ∷ bs) ≡ None → all_known (c ∷ b ∷ bs) ≡ None
swap-none (known p) (known q) bs e = ap (λ x. with_first q (with_first p x)) (first-none q (all_known bs) (first-none p (with_first q (all_known bs)) e))
swap-none (constant_of i) (known q) bs e = refl
swap-none other (known q) bs e = refl
swap-none (bounds x) (known q) bs e = refl
swap-none b (constant_of i) bs e = refl
swap-none b other bs e = refl
swap-none b (bounds x) bs e = refl

cons-none : (c : Bounding) (bs ws : List Bounding) → (all_known bs ≡ None → all_known ws ≡ None) → all_known (c ∷ bs) ≡ None → all_known (c ∷ ws) ≡ None
cons-none (known q) bs ws f e = ap (λ x. with_first q x) (f (first-none q (all_known bs) e))
cons-none (constant_of i) bs ws f e = refl
cons-none other bs ws f e = refl
cons-none (bounds x) bs ws f e = refl

rotate-none : (b : Bounding) (bs ws : List Bounding) → all_known (b ∷ (bs ++ ws)) ≡ None → all_known (bs ++ (b ∷ ws)) ≡ None
rotate-none b [] ws e = e
rotate-none b (c ∷ bs) ws e = cons-none c (b ∷ (bs ++ ws)) (bs ++ (b ∷ ws)) (rotate-none b bs ws) (swap-none b c (bs ++ ws) e)

behind-none : (bs ws vs : List Bounding) → (all_known ws ≡ None → all_known vs ≡ None) → all_known (bs ++ ws) ≡ None → all_known (bs ++ vs) ≡ None
behind-none [] ws vs f e = f e
behind-none (c ∷ bs) ws vs f e = cons-none c (bs ++ ws) (bs ++ vs) (behind-none bs ws vs f) e

-- nodes of these trees, which weigh what they did, in another order
record Placed (ts : List Term) (us : List Unfolded) (bs : List Bounding) : Type 0 where
  nodes : List ℕ
  weights : List Bounding
  trees : trees_at ts nodes ≡ us
  each : WeighsEach ts nodes weights
  none : all_known bs ≡ None → all_known weights ≡ None

placed-cond : (ts : List Term) (b : Bool) (us vs : List Unfolded) (bs : List Bounding) → Placed ts us bs → Placed ts vs bs → Placed ts (cond b us vs) bs
placed-cond ts true us vs bs p q = p
placed-cond ts false us vs bs p q = q

beside-weighs : (ts : List Term) (k : ℕ) (b : Bounding) (ks : List ℕ) (bs : List Bounding) → Weighs (term_at ts k) b → WeighsEach ts ks bs → Placed ts (beside (tree_at ts k) (trees_at ts ks)) (b ∷ bs)
beside-weighs ts k b [] [] h g = record { nodes = k ∷ []; weights = b ∷ []; trees = refl; each = (h, tt); none = λ e. e }
beside-weighs ts k b (j ∷ ks) (c ∷ bs) h g = let p = beside-weighs ts k b ks bs h g.1 in
    placed-cond ts (repeats (term_at ts j) (term_at ts k)) (tree_at ts j ∷ tree_at ts k ∷ trees_at ts ks) (tree_at ts j ∷ beside (tree_at ts k) (trees_at ts ks)) (b ∷ c ∷ bs)
    (record { nodes = j ∷ k ∷ ks; weights = c ∷ b ∷ bs; trees = refl; each = (g.0, (h, g.1)); none = swap-none b c bs })
    (record {
      nodes = j ∷ p.nodes;
      weights = c ∷ p.weights;
      trees = ap (λ us. tree_at ts j ∷ us) p.trees;
      each = (g.0, p.each);
      none = λ e. cons-none c (b ∷ bs) p.weights p.none (swap-none b c bs e);
    })
beside-weighs ts k b [] (c ∷ bs) h g = elim g [ ]
beside-weighs ts k b (j ∷ ks) [] h g = elim g [ ]

gathered-weighs : (ts : List Term) (ns : List ℕ) (ws : List Bounding) (ks : List ℕ) (bs : List Bounding) → WeighsEach ts ns ws → WeighsEach ts ks bs → Placed ts (gathered_with (trees_at ts ns) (trees_at ts ks)) (bs ++ ws)
gathered-weighs ts ns ws [] [] g h = record { nodes = ns; weights = ws; trees = refl; each = g; none = λ e. e }
gathered-weighs ts ns ws (k ∷ ks) (b ∷ bs) g h =
    let p = beside-weighs ts k b ns ws h.0 g in let q = gathered-weighs ts p.nodes p.weights ks bs p.each h.1 in record {
      nodes = q.nodes;
      weights = q.weights;
      trees = q.trees ∙ ap (λ us. gathered_with us (trees_at ts ks)) p.trees;
      each = q.each;
      none = λ e. q.none (behind-none bs (b ∷ ws) p.weights p.none (rotate-none b bs ws e));
    }
gathered-weighs ts ns ws [] (b ∷ bs) g h = elim h [ ]
gathered-weighs ts ns ws (k ∷ ks) [] g h = elim h [ ]

two-or-more : (f : Term → Term → Unfolded) → IsStep f → (ts : List Term) (ns : List ℕ) (ws : List Bounding) (r : Term) → 1 < length ns → WeighsEach ts ns ws → all_known ws ≡ None →
    all_steps f (powers (trees_at ts ns)) ≡ term r → Weighs r other
two-or-more f i ts (k ∷ j ∷ ks) ws r l h a e = other-product f i ts k j ks ws r h a e
two-or-more f i ts [] ws r l h a e = absurd (omega (arith, l))
two-or-more f i ts (k ∷ []) ws r l h a e = absurd (omega (arith, l))

other-gathered : (f : Term → Term → Unfolded) → IsStep f → (ts : List Term) (k j : ℕ) (ks : List ℕ) (bs : List Bounding) (r : Term) → WeighsEach ts (k ∷ j ∷ ks) bs → all_known bs ≡ None →
    all_steps f (powers (gathered (trees_at ts (k ∷ j ∷ ks)))) ≡ term r → Weighs r other
other-gathered f i ts k j ks bs r h a e = let p = gathered-weighs ts [] [] (k ∷ j ∷ ks) bs tt h in
    two-or-more f i ts p.nodes p.weights r (omega (arith, length_factors ts (k ∷ j ∷ ks) p.nodes p.trees)) p.each
    (p.none (ap (λ xs. all_known xs) (append-nil bs) ∙ a)) (ap (λ us. all_steps f (powers us)) p.trees ∙ e)

-- constants stay where they are
abbrev AreConstants : List Term → List ℕ → Type 0
AreConstants ts [] = Unit {0}
AreConstants ts (k ∷ ks) = ((c : Fraction) × (term_at ts k ≡ constant c)) × AreConstants ts ks

are-constants : (ts : List Term) (ks : List ℕ) (bs : List Bounding) (qs : List Value) → WeighsEach ts ks bs → all_known bs ≡ Some qs → AreConstants ts ks
are-constants ts [] [] qs h a = tt
are-constants ts (k ∷ ks) (b ∷ bs) qs h a = elim (known_or (term_at ts k) b h.0) [
  | inl w ↦ let s = first-some w.number (all_known bs) qs (ap (λ x. all_known (x ∷ bs)) (sym w.bounding) ∙ a) in
      ((w.written, w.tree), are-constants ts ks bs s.0 h.1 s.1)
  | inr w ↦ let o = w.1 bs in cc
]
are-constants ts [] (b ∷ bs) qs h a = elim h [ ]
are-constants ts (k ∷ ks) [] qs h a = elim h [ ]

constants-end : (ts : List Term) (ns : List ℕ) (k : ℕ) → AreConstants ts ns → AreConstants ts (k ∷ []) → AreConstants ts (ns ++ (k ∷ []))
constants-end ts [] k h g = g
constants-end ts (n ∷ ns) k h g = (h.0, constants-end ts ns k h.1 g)

beside-constants : (ts : List Term) (ns : List ℕ) (k : ℕ) → AreConstants ts ns → beside (tree_at ts k) (trees_at ts ns) ≡ trees_at ts ns ++ (tree_at ts k ∷ [])
beside-constants ts [] k h = refl
beside-constants ts (n ∷ ns) k h =
    ap (λ b. cond b (tree_at ts n ∷ tree_at ts k ∷ trees_at ts ns) (tree_at ts n ∷ beside (tree_at ts k) (trees_at ts ns))) (no-repeats (term_at ts n) (term_at ts k) h.0.0 h.0.1)
    ∙ ap (λ us. tree_at ts n ∷ us) (beside-constants ts ns k h.1)

gathered-constants : (ts : List Term) (ns ks : List ℕ) → AreConstants ts ns → AreConstants ts ks → gathered_with (trees_at ts ns) (trees_at ts ks) ≡ trees_at ts (ns ++ ks)
gathered-constants ts ns [] h g = ap (λ js. trees_at ts js) (sym (append-nil ns))
gathered-constants ts ns (k ∷ ks) h g =
    ap (λ us. gathered_with us (trees_at ts ks)) (beside-constants ts ns k h ∙ sym (trees_both ts ns (k ∷ [])))
    ∙ gathered-constants ts (ns ++ (k ∷ [])) ks (constants-end ts ns k h (g.0, tt)) g.1
    ∙ ap (λ js. trees_at ts js) (append_assoc ns (k ∷ []) ks)

-- trees alone
pub plain_product : (at : Place) (ts : List Term) (ks : List ℕ) → product_tree at (trees_at ts ks) ≡ all_steps (multiply_tree at) (powers (gathered (trees_at ts ks)))
plain_product at ts ks = ap (λ b. all_steps (multiply_tree at) (cond b (trees_at ts ks) (powers (gathered (trees_at ts ks))))) (plain_trees ts ks)

several-factors : (at : Place) (ts : List Term) (k j : ℕ) (ks : List ℕ) (bs : List Bounding) (r : Term) → WeighsEach ts (k ∷ j ∷ ks) bs → takes times (trees_at ts (k ∷ j ∷ ks)) ≡ true →
    product_tree at (trees_at ts (k ∷ j ∷ ks)) ≡ term r → (x : Option (List Value)) → all_known bs ≡ x → Weighs r (computed times x)
several-factors at ts k j ks bs r h t e None a = other-gathered (multiply_tree at) (multiply_step at) ts k j ks bs r h a (sym (plain_product at ts (k ∷ j ∷ ks)) ∙ e)
several-factors at ts k j ks bs r h t e (Some qs) a =
    let g = plain_product at ts (k ∷ j ∷ ks) ∙ ap (λ us. all_steps (multiply_tree at) (powers us)) (gathered-constants ts [] (k ∷ j ∷ ks) tt (are-constants ts (k ∷ j ∷ ks) bs qs h a))
    ∙ ap (λ us. all_steps (multiply_tree at) us) (known-powers ts k (j ∷ ks) bs qs h a) in
    several Multiply at ts k j ks bs r h t g e (Some qs) a

-- the opposite of one tree
opposite-weighs : (t : Term) → as_constant t ≡ None → Weighs (negate_tree t) other
opposite-weighs (constant c) e = cc
opposite-weighs (variable i) e = refl
opposite-weighs (negate t) e = refl
opposite-weighs (add t u) e = refl
opposite-weighs (multiply t u) e = refl
opposite-weighs (square t) e = refl

opposite : (at : Place) (ts : List Term) (k : ℕ) (b : Bounding) (r : Term) → Weighs (term_at ts k) b → negate_tree (term_at ts k) ≡ r → Weighs r (computed minus (all_known (b ∷ [])))
opposite at ts k b r h e = elim (known_or (term_at ts k) b h) [
  | inl w ↦ let a : all_known (b ∷ []) ≡ Some (real w.number ∷ []) = ap (λ x. all_known (x ∷ [])) w.bounding in
      subst (λ (x : Option (List Value)). Weighs r (computed minus x)) (sym a)
      (folded Subtract at ts (k ∷ []) (b ∷ []) (real w.number ∷ []) r (negated w.written) (h, tt) a refl (ap (λ (x : Term). term x) e) (sym e ∙ ap negate_tree w.tree))
  | inr w ↦ subst (λ (x : Option (List Value)). Weighs r (computed minus x)) (sym (w.1 [])) (subst (λ (x : Term). Weighs x other) e (opposite-weighs (term_at ts k) w.0))
]

alone-weighs : (op : Operator) (ts : List Term) (k : ℕ) (b : Bounding) (r : Term) → Weighs (term_at ts k) b → tree_at ts k ≡ term r → Weighs r (alone op (b ∷ []))
alone-weighs op ts k b r h e = subst (λ (x : Term). Weighs x b) (term-is (term_at ts k) r e) h

pub arithmetic_weighs : (s : Step) (at : Place) (ts : List Term) (ks : List ℕ) (bs : List Bounding) (r : Term) → WeighsEach ts ks bs → takes (operator_of_step s) (trees_at ts ks) ≡ true →
    unfolded_operation at (operator_of_step s) (trees_at ts ks) ≡ term r → Weighs r (bounding_operation (operator_of_step s) bs)
arithmetic_weighs Add at ts (k ∷ []) (b ∷ []) r h t e = alone-weighs plus ts k b r h.0 e
arithmetic_weighs Multiply at ts (k ∷ []) (b ∷ []) r h t e = alone-weighs times ts k b r h.0 e
arithmetic_weighs Subtract at ts (k ∷ []) (b ∷ []) r h t e = opposite at ts k b r h.0 (term-is (negate_tree (term_at ts k)) r e)
arithmetic_weighs Divide at ts (k ∷ []) bs r h t e = cc
arithmetic_weighs Add at ts (k ∷ j ∷ ks) (b ∷ b' ∷ bs) r h t e = several Add at ts k j ks (b ∷ b' ∷ bs) r h t refl e (all_known (b ∷ b' ∷ bs)) refl
arithmetic_weighs Subtract at ts (k ∷ j ∷ ks) (b ∷ b' ∷ bs) r h t e = several Subtract at ts k j ks (b ∷ b' ∷ bs) r h t refl e (all_known (b ∷ b' ∷ bs)) refl
arithmetic_weighs Multiply at ts (k ∷ j ∷ ks) (b ∷ b' ∷ bs) r h t e = several-factors at ts k j ks (b ∷ b' ∷ bs) r h t e (all_known (b ∷ b' ∷ bs)) refl
arithmetic_weighs Divide at ts (k ∷ j ∷ ks) (b ∷ b' ∷ bs) r h t e = several Divide at ts k j ks (b ∷ b' ∷ bs) r h t (ap (λ x. cond x (refused (divisor_not_constant at)) (steps (divide_tree at) (tree_at ts k) (trees_at ts (j ∷ ks)))) (plain_trees ts (j ∷ ks))) e (all_known (b ∷ b' ∷ bs)) refl
arithmetic_weighs s at ts (k ∷ []) [] r h t e = elim h [ ]
arithmetic_weighs s at ts (k ∷ []) (b ∷ b' ∷ bs) r h t e = elim h.1 [ ]
arithmetic_weighs s at ts (k ∷ j ∷ ks) [] r h t e = elim h [ ]
arithmetic_weighs s at ts (k ∷ j ∷ ks) (b ∷ []) r h t e = elim h.1 [ ]
arithmetic_weighs Add at ts [] bs r h t e = cc
arithmetic_weighs Subtract at ts [] bs r h t e = cc
arithmetic_weighs Multiply at ts [] bs r h t e = cc
arithmetic_weighs Divide at ts [] bs r h t e = cc

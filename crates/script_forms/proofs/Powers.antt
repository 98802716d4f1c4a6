-- A product of powers is the product of their factors, also where these are gathered.
use Rattle.std.proofs.Common.{◌≡◌, ◌*◌, List, [], ◌∷◌, map, Bool, true, false, ◌&&◌, ◌||◌, cond, refl, ap, sym, ◌∙◌, subst, arith, pos}
use Rattle.dyadic.specs.Fraction.{Fraction, IsFraction, zero_fraction, whole, product_of}
use Rattle.dyadic.specs.Point.{Coordinate}
use Rattle.script_model.specs.Sexp.{Place}
use Rattle.script_model.specs.Meaning.{Value, real, bool, either as either_value, from_left, first_and_rest, step_values}
use Rattle.poly_graph.specs.Term.{Term, constant, variable, negate, add, multiply, square}
use Rattle.script_forms.specs.Terms.{Unfolded, term, formula, refused, either, multiply_tree, all_steps, is_either, hold_either, Times, once, twice, twice_and_once, once_more, power, repeats, stands_again, beside, gathered_with, gathered, powers_from, powers, factors, product_tree}
use Rattle.script_forms.specs.Unfolded.{is_real_tree, are_terms}
use Rattle.dyadic.proofs.Equal.{◌≈◌, ≈_trans, ≈_refl, ≈_sym, product_same}
use Rattle.dyadic.proofs.Ring.{atom, natural, times, same}
use Rattle.script_forms.proofs.Means.{Means, Num, Reals, no_reals, more_reals, same_term_is, product_num, square_num, product_means, multiply_real, steps_means, all_steps_means, both_true}
use Rattle.script_forms.proofs.Quotient.{along}

-- ---- products of fractions

product-fraction : (p q : Fraction) → IsFraction p → IsFraction q → IsFraction (product_of p q)
unfolding product_of
product-fraction p q f g = grind arith

-- a (b c) is (a b) c
regrouped : (a b c : Fraction) → product_of a (product_of b c) ≈ product_of (product_of a b) c
unfolding product_of
regrouped a b c = record {
  same = same (times (times (atom a.num) (times (atom b.num) (atom c.num))) (natural ((a.den * b.den) * c.den)))
      (times (times (times (atom a.num) (atom b.num)) (atom c.num)) (natural (a.den * (b.den * c.den))))
      (omega arith);
}

-- (a b) (a b) is a (a (b b))
squared : (a b : Fraction) → product_of (product_of a b) (product_of a b) ≈ product_of a (product_of a (product_of b b))
unfolding product_of
squared a b = record {
  same = same (times (times (times (atom a.num) (atom b.num)) (times (atom a.num) (atom b.num))) (natural (a.den * (a.den * (b.den * b.den)))))
      (times (times (atom a.num) (times (atom a.num) (times (atom b.num) (atom b.num)))) (natural ((a.den * b.den) * (a.den * b.den))))
      (omega arith);
}

-- (a b) c is b (a c)
passed : (a b c : Fraction) → product_of (product_of a b) c ≈ product_of b (product_of a c)
unfolding product_of
passed a b c = record {
  same = same (times (times (times (atom a.num) (atom b.num)) (atom c.num)) (natural (b.den * (a.den * c.den))))
      (times (times (atom b.num) (times (atom a.num) (atom c.num))) (natural ((a.den * b.den) * c.den)))
      (omega arith);
}

-- a (b c) is b (a c)
swapped : (a b c : Fraction) → product_of a (product_of b c) ≈ product_of b (product_of a c)
unfolding product_of
swapped a b c = record {
  same = same (times (times (atom a.num) (times (atom b.num) (atom c.num))) (natural (b.den * (a.den * c.den))))
      (times (times (atom b.num) (times (atom a.num) (atom c.num))) (natural (a.den * (b.den * c.den))))
      (omega arith);
}

abbrev one : Fraction
one = whole (pos 1)

by-one : (a : Fraction) → a ≈ product_of a (whole (pos 1))
unfolding product_of
by-one a = record { same = same (times (atom a.num) (natural (a.den * 1))) (times (times (atom a.num) (natural 1)) (natural a.den)) (omega arith) }

-- ---- powers of fractions

abbrev to-power : Times → Fraction → Fraction
to-power once q = q
to-power (twice n) q = product_of (to-power n q) (to-power n q)
to-power (twice_and_once n) q = product_of q (product_of (to-power n q) (to-power n q))

power-fraction : (n : Times) (q : Fraction) → IsFraction q → IsFraction (to-power n q)
power-fraction once q f = f
power-fraction (twice n) q f = let h = power-fraction n q f in product-fraction _ _ h h
power-fraction (twice_and_once n) q f = let h = power-fraction n q f in product-fraction _ _ f (product-fraction _ _ h h)

-- once more is the factor times the power
more-power : (n : Times) (q : Fraction) → IsFraction q → to-power (once_more n) q ≈ product_of q (to-power n q)
more-power once q f = ≈_refl _
more-power (twice n) q f = ≈_refl _
more-power (twice_and_once n) q f = let h = more-power n q f in let i = power-fraction n q f in
    ≈_trans (product-fraction _ _ (product-fraction _ _ f i) (product-fraction _ _ f i)) (product_same h h) (squared q (to-power n q))

-- ---- products of lists

abbrev product : List Fraction → Fraction
product [] = one
product (q ∷ qs) = product_of q (product qs)

abbrev from-left : Fraction → List Fraction → Fraction
from-left p [] = p
from-left p (q ∷ qs) = from-left (product_of p q) qs

abbrev AreFractions : List Fraction → Type 0
AreFractions [] = Unit {0}
AreFractions (q ∷ qs) = IsFraction q × AreFractions qs

product-is : (qs : List Fraction) → AreFractions qs → IsFraction (product qs)
product-is [] h = omega arith
product-is (q ∷ qs) h = product-fraction _ _ h.0 (product-is qs h.1)

left-is : (p : Fraction) (qs : List Fraction) → IsFraction p → AreFractions qs → IsFraction (from-left p qs)
left-is p [] f h = f
left-is p (q ∷ qs) f h = left-is (product_of p q) qs (product-fraction _ _ f h.0) h.1

left-product : (p : Fraction) (qs : List Fraction) → IsFraction p → AreFractions qs → from-left p qs ≈ product_of p (product qs)
left-product p [] f h = by-one p
left-product p (q ∷ qs) f h = ≈_trans (product-fraction _ _ (product-fraction _ _ f h.0) (product-is qs h.1)) (left-product (product_of p q) qs (product-fraction _ _ f h.0) h.1) (≈_sym (regrouped p q (product qs)))

left-values : (p : Fraction) (qs : List Fraction) → from_left (step_values product_of) (real p) (map (λ q. real q) qs) ≡ real (from-left p qs)
left-values p [] = refl
left-values p (q ∷ qs) = left-values (product_of p q) qs

-- ---- terms

cond-terms : (b : Bool) (us vs : List Unfolded) → are_terms us ≡ true → are_terms vs ≡ true → are_terms (cond b us vs) ≡ true
cond-terms true us vs h k = h
cond-terms false us vs h k = k

powers-from-terms : (t : Term) (n : Times) (us : List Unfolded) → are_terms us ≡ true → are_terms (powers_from t n us) ≡ true
powers-from-terms t n [] h = refl
powers-from-terms t n (term u ∷ us) h = cond-terms (repeats t u) (powers_from t (once_more n) us) (term (power n t) ∷ powers_from u once us)
    (powers-from-terms t (once_more n) us h) (powers-from-terms u once us h)
powers-from-terms t n (either c d a b ∷ us) h = h
powers-from-terms t n (formula f g ∷ us) h = cc
powers-from-terms t n (refused x ∷ us) h = cc

powers-terms : (us : List Unfolded) → are_terms us ≡ true → are_terms (powers us) ≡ true
powers-terms [] h = refl
powers-terms (term t ∷ us) h = powers-from-terms t once us h
powers-terms (either c d a b ∷ us) h = h
powers-terms (formula f g ∷ us) h = cc
powers-terms (refused x ∷ us) h = cc

and-true : (a b : Bool) → a ≡ true → b ≡ true → a && b ≡ true
and-true a b h k = ap (λ x. x && b) h ∙ k

beside-terms : (u : Unfolded) (vs : List Unfolded) → is_real_tree u ≡ true → are_terms vs ≡ true → are_terms (beside u vs) ≡ true
beside-terms u [] h k = and-true (is_real_tree u) true h refl
beside-terms u (v ∷ vs) h k = let b = both_true (is_real_tree v) (are_terms vs) k in
    cond-terms (stands_again v u) (v ∷ u ∷ vs) (v ∷ beside u vs)
    (and-true (is_real_tree v) (are_terms (u ∷ vs)) b.0 (and-true (is_real_tree u) (are_terms vs) h b.1))
    (and-true (is_real_tree v) (are_terms (beside u vs)) b.0 (beside-terms u vs h b.1))

gathered-terms : (vs us : List Unfolded) → are_terms vs ≡ true → are_terms us ≡ true → are_terms (gathered_with vs us) ≡ true
gathered-terms vs [] h k = h
gathered-terms vs (u ∷ us) h k = let b = both_true (is_real_tree u) (are_terms us) k in
    gathered-terms (beside u vs) us (beside-terms u vs b.0 h) b.1

pub factors_terms : (us : List Unfolded) → are_terms us ≡ true → are_terms (factors us) ≡ true
factors_terms us h = cond-terms (hold_either us) us (powers (gathered us)) h (powers-terms (gathered us) (gathered-terms [] us refl h))

pub repeats_is : (t u : Term) → repeats t u ≡ true → t ≡ u
repeats_is (constant q) u h = cc
repeats_is (variable i) u h = same_term_is (variable i) u h
repeats_is (negate t) u h = same_term_is (negate t) u h
repeats_is (add t t') u h = same_term_is (add t t') u h
repeats_is (multiply t t') u h = same_term_is (multiply t t') u h
repeats_is (square t) u h = same_term_is (square t) u h

module _ (m : Fraction) (point : List Coordinate) where
  power-num : (n : Times) (q : Fraction) (t : Term) → Num m point q t → Num m point (to-power n q) (power n t)
  power-num once q t h = h
  power-num (twice n) q t h = let k = power-num n q t h in square_num m point (to-power n q) (to-power n q) (power n t) (power n t) refl k k
  power-num (twice_and_once n) q t h = let k = power-num n q t h in
      product_num m point q _ t (square (power n t)) h (square_num m point (to-power n q) (to-power n q) (power n t) (power n t) refl k k)

  -- these are the values of terms
  data Numbers : List Fraction → List Unfolded → Type 0 where
    none : Numbers [] []
    more : {q : Fraction} {t : Term} {qs : List Fraction} {us : List Unfolded} → Num m point q t → Numbers qs us → Numbers (q ∷ qs) (term t ∷ us)

  are-fractions : {qs : List Fraction} {us : List Unfolded} → Numbers qs us → AreFractions qs
  are-fractions none = tt
  are-fractions (more h k) = (h.one, are-fractions k)

  reals-of : {qs : List Fraction} {us : List Unfolded} → Numbers qs us → Reals m point (map (λ q. real q) qs) us
  reals-of none = no_reals
  reals-of (more h k) = more_reals refl h (reals-of k)

  record Plain (vs : List Value) (us : List Unfolded) : Type 0 where
    numbers : List Fraction
    values : vs ≡ map (λ q. real q) numbers
    are : Numbers numbers us

  plain-more : (v : Value) (u : Unfolded) (vs : List Value) (us : List Unfolded) → Means m point v u → is_real_tree u ≡ true → is_either u ≡ false → Plain vs us → Plain (v ∷ vs) (u ∷ us)
  plain-more (real q) (term t) vs us h r e p = record { numbers = q ∷ p.numbers; values = ap (λ x. real q ∷ x) p.values; are = more h p.are }
  plain-more v (either c d a b) vs us h r e p = cc
  plain-more v (formula f g) vs us h r e p = cc
  plain-more v (refused x) vs us h r e p = cc
  plain-more (bool p) (term t) vs us h r e _ = elim h [ ]
  plain-more (either_value p v w) (term t) vs us h r e _ = elim h [ ]

  neither : (x y : Bool) → x || y ≡ false → (x ≡ false) × (y ≡ false)
  neither false y h = (refl, h)
  neither true y h = cc

  plain : {vs : List Value} {us : List Unfolded} → Reals m point vs us → hold_either us ≡ false → Plain vs us
  plain no_reals e = record { numbers = []; values = refl; are = none }
  plain (more_reals {v = v} {u = u} {vs = vs} {us = us} r h rest) e = let n = neither (is_either u) (hold_either us) e in plain-more v u vs us h r n.0 (plain rest n.1)

  -- what is made of a power of this value and those behind it
  record Factored (p : Fraction) (us : List Unfolded) : Type 0 where
    first : Fraction
    tree : Term
    values : List Fraction
    rest : List Unfolded
    is : us ≡ term tree ∷ rest
    head : Num m point first tree
    tail : Numbers values rest
    equal : product_of first (product values) ≈ p

  factored-cond : (b : Bool) (p : Fraction) (us vs : List Unfolded) → (b ≡ true → Factored p us) → (b ≡ false → Factored p vs) → Factored p (cond b us vs)
  factored-cond true p us vs f g = f refl
  factored-cond false p us vs f g = g refl

  refactored : (p r : Fraction) (us : List Unfolded) → IsFraction p → p ≈ r → Factored p us → Factored r us
  refactored p r us f e g = record { first = g.first; tree = g.tree; values = g.values; rest = g.rest; is = g.is; head = g.head; tail = g.tail; equal = ≈_trans f g.equal e }

  -- the same term has the same value
  same-value : (q r : Fraction) (t u : Term) → t ≡ u → Num m point q t → Num m point r u → q ≈ r
  same-value q r t u e h k = let l : Num m point q u = subst (λ (x : Term). Num m point q x) e h in ≈_trans l.other l.equal (≈_sym k.equal)

  -- a power before others is no factor of theirs
  apart : (n : Times) (q x : Fraction) (t : Term) (us : List Unfolded) → Num m point q t → Factored x us → Factored (product_of (to-power n q) x) (term (power n t) ∷ us)
  apart n q x t us h g = record {
    first = to-power n q;
    tree = power n t;
    values = g.first ∷ g.values;
    rest = us;
    is = refl;
    head = power-num n q t h;
    tail = subst (λ (ys : List Unfolded). Numbers (g.first ∷ g.values) ys) (sym g.is) (more g.head g.tail);
    equal = product_same (≈_refl (to-power n q)) g.equal;
  }

  powered : (n : Times) (q : Fraction) (t : Term) → Num m point q t → {qs : List Fraction} {us : List Unfolded} → Numbers qs us → Factored (product_of (to-power n q) (product qs)) (powers_from t n us)
  powered n q t h none = record { first = to-power n q; tree = power n t; values = []; rest = []; is = refl; head = power-num n q t h; tail = none; equal = ≈_refl _ }
  powered n q t h (more {q = r} {t = u} {qs = qs} {us = us} k rest) =
      factored-cond (repeats t u) _ (powers_from t (once_more n) us) (term (power n t) ∷ powers_from u once us)
      (λ e. let f = power-fraction n q h.one in let i = product-is qs (are-fractions rest) in let j = power-fraction (once_more n) q h.one in
      let s = same-value q r t u (repeats_is t u e) h k in
      refactored (product_of (to-power (once_more n) q) (product qs)) (product_of (to-power n q) (product_of r (product qs))) (powers_from t (once_more n) us)
      (product-fraction _ _ j i)
      (≈_trans (product-fraction _ _ (product-fraction _ _ h.one f) i) (product_same (more-power n q h.one) (≈_refl (product qs)))
      (≈_trans (product-fraction _ _ f (product-fraction _ _ h.one i)) (passed q (to-power n q) (product qs)) (product_same (≈_refl (to-power n q)) (product_same s (≈_refl (product qs))))))
      (powered (once_more n) q t h rest))
      (λ e. apart n q (product_of r (product qs)) t (powers_from u once us) h (powered once r u k rest))

  -- ---- products

  product-of-powers : (at : Place) (q : Fraction) (t : Term) (qs : List Fraction) (us : List Unfolded) → Num m point q t → Numbers qs us →
      Means m point (real (from-left q qs)) (all_steps (multiply_tree at) (powers_from t once us))
  product-of-powers at q t qs us h k =
      let g = powered once q t h k in let a = are-fractions k in let b = are-fractions g.tail in
      along m point (from-left q qs) (from-left g.first g.values) (all_steps (multiply_tree at) (powers_from t once us)) (left-is q qs h.one a)
      (≈_trans (product-fraction _ _ h.one (product-is qs a)) (left-product q qs h.one a)
      (≈_trans (product-fraction _ _ g.head.one (product-is g.values b)) (≈_sym g.equal) (≈_sym (left-product g.first g.values g.head.one b))))
      (subst (λ (v : Value). Means m point v (all_steps (multiply_tree at) (powers_from t once us))) (left-values g.first g.values)
      (subst (λ (ys : List Unfolded). Means m point (from_left (step_values product_of) (real g.first) (map (λ x. real x) g.values)) (all_steps (multiply_tree at) ys)) (sym g.is)
      (steps_means m point product_of (multiply_tree at) (product_means m point at) (multiply_real m point at) (real g.first) (term g.tree) tt g.head (reals-of g.tail))))

  -- ---- gathered factors

  numbers-of : {p : Fraction} {us : List Unfolded} (g : Factored p us) → Numbers (g.first ∷ g.values) us
  numbers-of g = subst (λ (ys : List Unfolded). Numbers (g.first ∷ g.values) ys) (sym g.is) (more g.head g.tail)

  beside-numbers : (q : Fraction) (t : Term) → Num m point q t → {qs : List Fraction} {us : List Unfolded} → Numbers qs us → Factored (product_of q (product qs)) (beside (term t) us)
  beside-numbers q t h none = record { first = q; tree = t; values = []; rest = []; is = refl; head = h; tail = none; equal = ≈_refl _ }
  beside-numbers q t h (more {q = r} {t = u} {qs = qs} {us = us} k rest) =
      factored-cond (repeats u t) _ (term u ∷ term t ∷ us) (term u ∷ beside (term t) us)
      (λ e. record { first = r; tree = u; values = q ∷ qs; rest = term t ∷ us; is = refl; head = k; tail = more h rest; equal = swapped r q (product qs) })
      (λ e. let g = beside-numbers q t h rest in record {
        first = r;
        tree = u;
        values = g.first ∷ g.values;
        rest = beside (term t) us;
        is = refl;
        head = k;
        tail = numbers-of g;
        equal = ≈_trans (product-fraction _ _ k.one (product-fraction _ _ h.one (product-is qs (are-fractions rest)))) (product_same (≈_refl r) g.equal) (swapped r q (product qs));
      })

  -- to factors others are put
  gathered-numbers : (p : Fraction) → IsFraction p → {vs : List Unfolded} → Factored p vs → {qs : List Fraction} {us : List Unfolded} → Numbers qs us → Factored (product_of p (product qs)) (gathered_with vs us)
  gathered-numbers p f g none = refactored p _ _ f (by-one p) g
  gathered-numbers p f {vs} g (more {q = r} {t = t} {qs = qs} {us = us} k rest) =
      let n = are-fractions (numbers-of g) in let i = product-is qs (are-fractions rest) in let j = product-fraction _ _ k.one f in
      let b = refactored (product_of r (product_of g.first (product g.values))) (product_of r p) (beside (term t) vs)
      (product-fraction _ _ k.one (product-fraction _ _ n.0 (product-is g.values n.1))) (product_same (≈_refl r) g.equal) (beside-numbers r t k (numbers-of g)) in
      refactored (product_of (product_of r p) (product qs)) (product_of p (product_of r (product qs))) (gathered_with (beside (term t) vs) us)
      (product-fraction _ _ j i) (passed r p (product qs)) (gathered-numbers (product_of r p) j b rest)

  gathered-product : (at : Place) (q : Fraction) (t : Term) (qs : List Fraction) (us : List Unfolded) → Num m point q t → Numbers qs us →
      Means m point (real (from-left q qs)) (all_steps (multiply_tree at) (powers (gathered_with (term t ∷ []) us)))
  gathered-product at q t qs us h k =
      let only : Factored q (term t ∷ []) = record { first = q; tree = t; values = []; rest = []; is = refl; head = h; tail = none; equal = ≈_sym (by-one q) } in
      let g = gathered-numbers q h.one only k in let a = are-fractions k in let b = are-fractions g.tail in
      along m point (from-left q qs) (from-left g.first g.values) (all_steps (multiply_tree at) (powers (gathered_with (term t ∷ []) us))) (left-is q qs h.one a)
      (≈_trans (product-fraction _ _ h.one (product-is qs a)) (left-product q qs h.one a)
      (≈_trans (product-fraction _ _ g.head.one (product-is g.values b)) (≈_sym g.equal) (≈_sym (left-product g.first g.values g.head.one b))))
      (subst (λ (ys : List Unfolded). Means m point (real (from-left g.first g.values)) (all_steps (multiply_tree at) (powers ys))) (sym g.is)
      (product-of-powers at g.first g.tree g.values g.rest g.head g.tail))

  plain-product : (at : Place) {qs : List Fraction} {us : List Unfolded} → Numbers qs us →
      Means m point (first_and_rest (step_values product_of) (real zero_fraction) (map (λ q. real q) qs)) (all_steps (multiply_tree at) (powers (gathered us)))
  plain-product at none = record { one = omega arith; other = omega arith; equal = ≈_refl zero_fraction }
  plain-product at (more {q = q} {t = t} {qs = qs} {us = us} h k) =
      subst (λ (v : Value). Means m point v (all_steps (multiply_tree at) (powers (gathered_with (term t ∷ []) us)))) (sym (left-values q qs)) (gathered-product at q t qs us h k)

  product-cond : (at : Place) {vs : List Value} {us : List Unfolded} → Reals m point vs us → (b : Bool) → hold_either us ≡ b →
      Means m point (first_and_rest (step_values product_of) (real zero_fraction) vs) (all_steps (multiply_tree at) (cond b us (powers (gathered us))))
  product-cond at h true e = all_steps_means m point product_of (multiply_tree at) (product_means m point at) (multiply_real m point at) h
  product-cond at {vs} {us} h false e = let p = plain h e in
      subst (λ (xs : List Value). Means m point (first_and_rest (step_values product_of) (real zero_fraction) xs) (all_steps (multiply_tree at) (powers (gathered us)))) (sym p.values) (plain-product at p.are)

  -- the tree of a product means the product
  pub product_tree_means : (at : Place) {vs : List Value} {us : List Unfolded} → Reals m point vs us →
      Means m point (first_and_rest (step_values product_of) (real zero_fraction) vs) (product_tree at us)
  product_tree_means at {vs} {us} h = product-cond at h (hold_either us) refl

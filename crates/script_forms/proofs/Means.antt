-- The tree of an expression means what the expression means: terms and comparisons.
use Rattle.std.proofs.Common.{◌≡◌, ℕ, suc, zero, ◌*◌, ◌<◌, List, [], ◌∷◌, ◌++◌, map, Bool, true, false, ◌&&◌, ◌||◌, cond, Option, Some, None, refl, ap, ap₂, sym, ◌∙◌, subst, nat_eq, arith, ℤ, pos, negsuc, ◌+ℤ◌, ◌*ℤ◌, neg_ℤ, nat_abs, eqb→eq}
use Rattle.std.specs.Bool.{passes}
use borrow.Author.Differences.{up, down}
use Rattle.dyadic.specs.Fraction.{Fraction, IsFraction, zero_fraction, negated, sum_of, product_of, difference_of}
use Rattle.dyadic.specs.Point.{Coordinate}
use Rattle.script_model.specs.Sexp.{Place}
use Rattle.script_model.specs.Meaning.{Pair, Value, real, bool, either as either_value, pair_of, all_pair, neighbours, pairs, from_left, first_and_rest, lift_value, step_values, lift_pair, compare_values, at_most_pair, at_least_pair, equal_pair}
use Rattle.script_model.proofs.Related.{Each}
use Rattle.poly_graph.specs.Term.{Term, constant, variable, negate, add, multiply, square, Kind, le, ge, eq, term_value, in_range, atom_holds}
use Rattle.poly_graph.specs.Form.{Form}
use Rattle.dyadic.specs.Lowest.{sum_fits, product_fits}
use Rattle.script_forms.specs.Terms.{same_fraction, same_sign, Comparison, Unfolded, term, formula, refused, either, second_arm, arms, lift_tree, Fault, is_nought, inverse_of, divide_tree, zero_divisor, constant_or, negate_tree, add_tree, multiply_tree, subtract_tree, same_term, is_zero, comparison_tree, step, steps, all_steps}
use Rattle.script_forms.specs.Unfolded.{checked, first_fault, unless_refused, chain, at_most_terms, at_least_terms, equal_terms, lift_form, compare_two, is_real_tree, term_in, are_terms, are_formulas}
use Rattle.script_forms.specs.Atoms.{fault_of, comparison_fault, atom_of}
use Rattle.dyadic.proofs.Equal.{◌≈◌, ≈_trans, ≈_refl, ≈_sym, sum_same, product_same, negated_same, at_most_same, at_least_same, cancel_equal}
use Rattle.dyadic.proofs.Ring.{atom, natural, plus, times, minus, same, read}
use Rattle.script_forms.proofs.Lowest.{reduced_same}
use Rattle.script_forms.proofs.Forms.{Same, EachSame, and_same, choice_same, comparison_holds}

abs-equal : (m n : ℤ) → nat_abs m ≡ nat_abs n → same_sign m n ≡ true → m ≡ n
abs-equal (pos m) (pos n) h e = ap pos h
abs-equal (negsuc m) (negsuc n) h e = ap negsuc (omega arith)
abs-equal (pos m) (negsuc n) h e = cc
abs-equal (negsuc m) (pos n) h e = cc

pub both_true : (x y : Bool) → x && y ≡ true → (x ≡ true) × (y ≡ true)
both_true true y h = (refl, h)
both_true false y h = cc

same-fraction : (p q : Fraction) → same_fraction p q ≡ true → p ≡ q
same-fraction p q h =
    let a = both_true (nat_eq (nat_abs p.num) (nat_abs q.num) && nat_eq p.den q.den) (same_sign p.num q.num) h in
    let b = both_true (nat_eq (nat_abs p.num) (nat_abs q.num)) (nat_eq p.den q.den) a.0 in
    let n = abs-equal p.num q.num (eqb→eq _ _ (passes _ b.0)) a.1 in
    let d = eqb→eq p.den q.den (passes _ b.1) in
    λ i. record { num = n i; den = d i }

pub same_term_is : (t u : Term) → same_term t u ≡ true → t ≡ u
same_term_is (constant p) (constant q) h = ap constant (same-fraction p q h)
same_term_is (variable i) (variable j) h = ap variable (eqb→eq i j (passes _ h))
same_term_is (negate t) (negate u) h = ap negate (same_term_is t u h)
same_term_is (add t t') (add u u') h = let b = both_true (same_term t u) (same_term t' u') h in ap₂ add (same_term_is t u b.0) (same_term_is t' u' b.1)
same_term_is (multiply t t') (multiply u u') h = let b = both_true (same_term t u) (same_term t' u') h in ap₂ multiply (same_term_is t u b.0) (same_term_is t' u' b.1)
same_term_is (square t) (square u) h = ap square (same_term_is t u h)
same_term_is _ _ h = cc

zero-product : (x b : ℕ) → 0 < b → x * b ≡ 0 → x ≡ 0
zero-product zero b g h = refl
zero-product (suc x) zero g h = absurd (omega arith)
zero-product (suc x) (suc b) g h = absurd (omega arith)

abs-zero : (z : ℤ) → nat_abs z ≡ 0 → z ≡ pos 0
abs-zero (pos n) h = ap pos h
abs-zero (negsuc n) h = absurd (omega arith)

zero-at : (a c : ℤ) (b d : ℕ) → 0 < d → c ≡ pos 0 → a *ℤ pos d ≡ c *ℤ pos b → a ≡ pos 0
zero-at a c b d g z h =
    let z' = read (atom c) (natural 0) z in
    let h' = read (times (atom a) (natural d)) (times (atom c) (natural b)) h in
    same (atom a) (natural 0) (omega (arith, cancel_equal (up a) (down a) d g (omega (arith, h', ap (λ x. x * b) z'))))

minus-at : (a c : ℤ) (b d : ℕ) → c ≡ pos 0 → ((a *ℤ pos d) +ℤ (neg_ℤ c *ℤ pos b)) *ℤ pos b ≡ a *ℤ pos (b * d)
minus-at a c b d z =
    same (times (plus (times (atom a) (natural d)) (times (minus (atom c)) (natural b))) (natural b)) (times (atom a) (natural (b * d)))
    (omega (arith, ap (λ x. x * (b * b)) (read (atom c) (natural 0) z)))

-- q is 0 where it is the same as a fraction that is
zero-same : (q c : Fraction) → IsFraction q → nat_abs c.num ≡ 0 → q ≈ c → IsFraction c → q.num ≡ pos 0
zero-same q c f z h g = zero-at q.num c.num q.den c.den g (abs-zero c.num z) h.same

minus-zero : (p q : Fraction) → q.num ≡ pos 0 → difference_of p q ≈ p
unfolding sum_of negated
minus-zero p q z = record { same = minus-at p.num q.num p.den q.den z }

and-true : (b : Bool) → b && true ≡ b
and-true true = refl
and-true false = refl

or-false : (b : Bool) → b || false ≡ b
or-false true = refl
or-false false = refl

module _ (m : Fraction) (point : List Coordinate) where
  -- the fraction is the value of the term
  pub record Num (q : Fraction) (t : Term) : Type 0 where
    pub one : IsFraction q
    pub other : IsFraction (term_value point t)
    pub equal : q ≈ term_value point t

  abbrev pub Means : Value → Unfolded → Type 0
  Means v (refused x) = Unit {0}
  Means (real q) (term t) = Num q t
  Means (bool p) (formula f g) = Same m point p (formula f g)
  Means (either_value p v w) (either f g t u) = Same m point p (formula f g) × Means v t × Means w u
  Means (real q) (formula f g) = ⊥
  Means (real q) (either f g t u) = ⊥
  Means (bool p) (term t) = ⊥
  Means (bool p) (either f g t u) = ⊥
  Means (either_value p v w) (term t) = ⊥
  Means (either_value p v w) (formula f g) = ⊥

  unless-means : (v : Value) (u : Unfolded) (o x : Option Fault) → o ≡ x → (o ≡ None → Means v u) → Means v (unless_refused x u)
  unless-means v u o None e f = f e
  unless-means v u o (Some x) e f = tt

  pub checked_means : (v : Value) (us : List Unfolded) (u : Unfolded) → (first_fault us ≡ None → Means v u) → Means v (checked us u)
  checked_means v us u f = unless-means v u (first_fault us) (first_fault us) refl f

  -- ---- terms

  negated-fraction : (q : Fraction) → IsFraction q → IsFraction (negated q)
  unfolding negated
  negated-fraction q f = f

  sum-fraction : (p q : Fraction) → IsFraction p → IsFraction q → IsFraction (sum_of p q)
  unfolding sum_of
  sum-fraction p q f g = grind arith

  pub product_fraction : (p q : Fraction) → IsFraction p → IsFraction q → IsFraction (product_of p q)
  unfolding product_of
  product_fraction p q f g = grind arith

  pub negated_num : (q : Fraction) (t : Term) → Num q t → Num (negated q) (negate_tree t)
  negated_num q (constant c) h = record { one = negated-fraction q h.one; other = negated-fraction c h.other; equal = negated_same h.equal }
  negated_num q t h = record { one = negated-fraction q h.one; other = negated-fraction (term_value point t) h.other; equal = negated_same h.equal }

  constant-means : (at : Place) (b : Bool) (p q : Fraction) → IsFraction p → IsFraction q → p ≈ q → Means (real p) (constant_or at b q)
  constant-means at false p q f g h = tt
  constant-means at true p q f g h = let k = reduced_same q g in record { one = f; other = k.0; equal = ≈_trans g h k.1 }

  sum-num : (p q : Fraction) (t u : Term) → Num p t → Num q u → Num (sum_of p q) (add t u)
  sum-num p q t u h k = record {
    one = sum-fraction p q h.one k.one;
    other = sum-fraction (term_value point t) (term_value point u) h.other k.other;
    equal = sum_same h.equal k.equal;
  }

  pub sum_means : (at : Place) (p q : Fraction) (t u : Term) → Num p t → Num q u → Means (real (sum_of p q)) (add_tree at t u)
  sum_means at p q (constant c) (constant d) h k =
      constant-means at (sum_fits c d) (sum_of p q) (sum_of c d) (sum-fraction p q h.one k.one) (sum-fraction c d h.other k.other) (sum_same h.equal k.equal)
  sum_means at p q t u h k = sum-num p q t u h k

  pub product_num : (p q : Fraction) (t u : Term) → Num p t → Num q u → Num (product_of p q) (multiply t u)
  product_num p q t u h k = record {
    one = product_fraction p q h.one k.one;
    other = product_fraction (term_value point t) (term_value point u) h.other k.other;
    equal = product_same h.equal k.equal;
  }

  pub square_num : (p q : Fraction) (t u : Term) → t ≡ u → Num p t → Num q u → Num (product_of p q) (square t)
  square_num p q t u e h k = let k' : Num q t = subst (λ (x : Term). Num q x) (sym e) k in record {
    one = product_fraction p q h.one k.one;
    other = product_fraction (term_value point t) (term_value point t) h.other h.other;
    equal = product_same h.equal k'.equal;
  }

  squared : (p q : Fraction) (t u : Term) (b : Bool) → same_term t u ≡ b → Num p t → Num q u → Num (product_of p q) (cond b (square t) (multiply t u))
  squared p q t u true e h k = square_num p q t u (same_term_is t u e) h k
  squared p q t u false e h k = product_num p q t u h k

  pub product_means : (at : Place) (p q : Fraction) (t u : Term) → Num p t → Num q u → Means (real (product_of p q)) (multiply_tree at t u)
  product_means at p q (constant c) (constant d) h k =
      constant-means at (product_fits c d) (product_of p q) (product_of c d) (product_fraction p q h.one k.one) (product_fraction c d h.other k.other) (product_same h.equal k.equal)
  product_means at p q t u h k = squared p q t u (same_term t u) refl h k

  pub difference_means : (at : Place) (p q : Fraction) (t u : Term) → Num p t → Num q u → Means (real (difference_of p q)) (subtract_tree at t u)
  difference_means at p q t u h k = sum_means at p (negated q) t (negate_tree u) h (negated_num q u k)

  -- p - q is p where the term of q is the constant 0
  less-zero : (p q : Fraction) (t u : Term) → is_zero u ≡ true → Num p t → Num q u → Num (difference_of p q) t
  less-zero p q t (constant c) e h k = let z = zero-same q c k.one (eqb→eq _ _ (passes _ e)) k.equal k.other in record {
    one = sum-fraction p (negated q) h.one (negated-fraction q k.one);
    other = h.other;
    equal = ≈_trans h.one (minus-zero p q z) h.equal;
  }
  less-zero p q t _ e h k = cc

  comparison-means : (at : Place) (p q : Fraction) (t u : Term) (b : Bool) → is_zero u ≡ b → Num p t → Num q u → Means (real (difference_of p q)) (cond b (term t) (subtract_tree at t u))
  comparison-means at p q t u true e h k = less-zero p q t u e h k
  comparison-means at p q t u false e h k = difference_means at p q t u h k

  -- the tree of a comparison is the difference of its terms
  pub comparison_tree_means : (c : Comparison) → IsFraction (term_value point c.left) → IsFraction (term_value point c.right) →
      Means (real (difference_of (term_value point c.left) (term_value point c.right))) (comparison_tree c)
  comparison_tree_means c f g = comparison-means c.at (term_value point c.left) (term_value point c.right) c.left c.right (is_zero c.right) refl
      (record { one = f; other = f; equal = ≈_refl _ }) (record { one = g; other = g; equal = ≈_refl _ })

  -- ---- comparisons

  difference-fraction : (p q : Fraction) → IsFraction p → IsFraction q → IsFraction (difference_of p q)
  difference-fraction p q f g = sum-fraction p (negated q) f (negated-fraction q g)

  pub range_same : (kind : Kind) (d d' : Fraction) → IsFraction d → IsFraction d' → d ≈ d' → in_range m kind d ≡ in_range m kind d'
  range_same le d d' f g h = at_most_same m f g h
  range_same ge d d' f g h = at_least_same (negated m) f g h
  range_same eq d d' f g h = ap₂ (λ x y. x && y) (at_least_same (negated m) f g h) (at_most_same m f g h)

  -- a comparison of two terms is that of their values
  compare-same : (kind : Kind) (p q : Fraction) (t u : Term) → Num p t → Num q u →
      in_range m kind (difference_of (term_value point t) (term_value point u)) ≡ in_range m kind (difference_of p q)
  compare-same kind p q t u h k = range_same kind _ (difference_of p q) (difference-fraction _ _ h.other k.other) (difference-fraction p q h.one k.one)
      (sum_same (≈_sym h.equal) (negated_same (≈_sym k.equal)))

  -- the pair of a comparison is that of its forms
  abbrev pub Compares : (Fraction → Fraction → Pair) → (Term → Term → Unfolded) → Type 0
  Compares pair f = (p q : Fraction) (t u : Term) → Num p t → Num q u → Same m point (pair p q) (f t u)

  pub at_most_compares : (at : Place) → Compares (at_most_pair m) (at_most_terms at)
  at_most_compares at p q t u h k = record { pos = compare-same le p q t u h k; neg = compare-same ge p q t u h k }

  pub at_least_compares : (at : Place) → Compares (at_least_pair m) (at_least_terms at)
  at_least_compares at p q t u h k = record { pos = compare-same ge p q t u h k; neg = compare-same le p q t u h k }

  pub equal_compares : (at : Place) → Compares (equal_pair m) (equal_terms at)
  equal_compares at p q t u h k = record { pos = compare-same eq p q t u h k; neg = refl }

  -- ---- Real `ite`

  second-means : (p : Pair) (c d : Form Comparison) (v w : Value) (a b : Unfolded) → Same m point p (formula c d) → Means v a → Means w b → Means (either_value p v w) (second_arm c d a b)
  second-means p c d v w a (refused x) h k l = tt
  second-means p c d v w a (term t) h k l = (h, k, l)
  second-means p c d v w a (formula f g) h k l = (h, k, l)
  second-means p c d v w a (either f g t u) h k l = (h, k, l)

  arms-mean : (p : Pair) (c d : Form Comparison) (v w : Value) (a b : Unfolded) → Same m point p (formula c d) → Means v a → Means w b → Means (either_value p v w) (arms c d a b)
  arms-mean p c d v w (refused x) b h k l = tt
  arms-mean p c d v w (term t) b h k l = second-means p c d v w (term t) b h k l
  arms-mean p c d v w (formula f g) b h k l = second-means p c d v w (formula f g) b h k l
  arms-mean p c d v w (either f g t u) b h k l = second-means p c d v w (either f g t u) b h k l

  -- a Real tree, or a fault
  abbrev pub IsRealOr : Unfolded → Type 0
  IsRealOr (formula f g) = ⊥
  IsRealOr (either c d a b) = IsRealOr a × IsRealOr b
  IsRealOr u = Unit {0}

  pub real_or : (u : Unfolded) → is_real_tree u ≡ true → IsRealOr u
  real_or (term t) e = tt
  real_or (either c d a b) e = let h = both_true (is_real_tree a) (is_real_tree b) e in (real_or a h.0, real_or b h.1)
  real_or (formula f g) e = cc
  real_or (refused x) e = cc

  arms-real : (c d : Form Comparison) (a b : Unfolded) → IsRealOr a → IsRealOr b → IsRealOr (arms c d a b)
  arms-real c d (refused x) b h k = tt
  arms-real c d (term t) (refused x) h k = tt
  arms-real c d (term t) (term u) h k = (h, k)
  arms-real c d (term t) (either f g x y) h k = (h, k)
  arms-real c d (either f g x y) (refused z) h k = tt
  arms-real c d (either f g x y) (term u) h k = (h, k)
  arms-real c d (either f g x y) (either f' g' x' y') h k = (h, k)
  arms-real c d (formula f g) b h k = elim h [ ]
  arms-real c d (term t) (formula f g) h k = elim k [ ]
  arms-real c d (either f g x y) (formula f' g') h k = elim k [ ]

  lift-real : (f : Term → Unfolded) → ((t : Term) → IsRealOr (f t)) → (u : Unfolded) → IsRealOr u → IsRealOr (lift_tree f u)
  lift-real f g (term t) h = g t
  lift-real f g (refused x) h = tt
  lift-real f g (either c d a b) h = arms-real c d (lift_tree f a) (lift_tree f b) (lift-real f g a h.0) (lift-real f g b h.1)
  lift-real f g (formula p n) h = elim h [ ]

  pub lift_means : (k : Fraction → Value) (f : Term → Unfolded) → ((q : Fraction) (t : Term) → Num q t → Means (k q) (f t)) → (v : Value) (u : Unfolded) → IsRealOr u → Means v u → Means (lift_value k v) (lift_tree f u)
  lift_means k f g (real q) (term t) r h = g q t h
  lift_means k f g (either_value p v w) (either c d a b) r h = arms-mean p c d (lift_value k v) (lift_value k w) (lift_tree f a) (lift_tree f b) h.0 (lift_means k f g v a r.0 h.1) (lift_means k f g w b r.1 h.2)
  lift_means k f g v (refused x) r h = tt
  lift_means k f g v (formula f' g') r h = elim r [ ]
  lift_means k f g (bool p) (term t) r h = elim h [ ]
  lift_means k f g (either_value p v w) (term t) r h = elim h [ ]
  lift_means k f g (bool p) (either c d a b) r h = elim h [ ]
  lift_means k f g (real q) (either c d a b) r h = elim h [ ]

  -- what is said of each arm
  pub lift_says : (k : Fraction → Pair) (f : Term → Unfolded) → ((q : Fraction) (t : Term) → Num q t → Same m point (k q) (f t)) → (v : Value) (u : Unfolded) → is_real_tree u ≡ true → Means v u → Same m point (lift_pair k v) (lift_form f u)
  lift_says k f g (real q) (term t) r h = g q t h
  lift_says k f g (either_value p v w) (either c d a b) r h = let e = both_true (is_real_tree a) (is_real_tree b) r in
      choice_same m point p (lift_pair k v) (lift_pair k w) (formula c d) (lift_form f a) (lift_form f b) h.0 (lift_says k f g v a e.0 h.1) (lift_says k f g w b e.1 h.2) []
  lift_says k f g v (refused x) r h = cc
  lift_says k f g v (formula f' g') r h = cc
  lift_says k f g (bool p) (term t) r h = elim h [ ]
  lift_says k f g (either_value p v w) (term t) r h = elim h [ ]
  lift_says k f g (bool p) (either c d a b) r h = elim h [ ]
  lift_says k f g (real q) (either c d a b) r h = elim h [ ]

  pub compare_says : (pair : Fraction → Fraction → Pair) (f : Term → Term → Unfolded) → Compares pair f → (v w : Value) (u x : Unfolded) → is_real_tree u ≡ true → is_real_tree x ≡ true → Means v u → Means w x →
      Same m point (compare_values pair v w) (compare_two f u x)
  compare_says pair f c v w u x r s h k = lift_says (λ p. lift_pair (λ q. pair p q) w) (λ t. lift_form (f t) x) (λ p t n. lift_says (pair p) (f t) (λ q y l. c p q t y n l) w x s k) v u r h

  -- ---- lists of Real trees and of formulas

  pub data Reals : List Value → List Unfolded → Type 0 where
    no_reals : Reals [] []
    more_reals : {v : Value} {u : Unfolded} {vs : List Value} {us : List Unfolded} → is_real_tree u ≡ true → Means v u → Reals vs us → Reals (v ∷ vs) (u ∷ us)

  pub reals : (vs : List Value) (us : List Unfolded) → Each Means vs us → are_terms us ≡ true → Reals vs us
  reals [] [] h e = no_reals
  reals (v ∷ vs) (u ∷ us) h e = let b = both_true (is_real_tree u) (are_terms us) e in more_reals b.0 h.0 (reals vs us h.1 b.1)
  reals [] (u ∷ us) h e = elim h [ ]
  reals (v ∷ vs) [] h e = elim h [ ]

  pub data Sames : List Pair → List Unfolded → Type 0 where
    no_sames : Sames [] []
    more_sames : {p : Pair} {f g : Form Comparison} {ps : List Pair} {us : List Unfolded} → Same m point p (formula f g) → Sames ps us → Sames (p ∷ ps) (formula f g ∷ us)

  pub all_formulas : (vs : List Value) (us : List Unfolded) → Each Means vs us → are_formulas us ≡ true → Sames (map pair_of vs) us
  all_formulas [] [] h e = no_sames
  all_formulas (bool p ∷ vs) (formula f g ∷ us) h e = more_sames h.0 (all_formulas vs us h.1 e)
  all_formulas (real q ∷ vs) (formula f g ∷ us) h e = elim h.0 [ ]
  all_formulas (either_value p v w ∷ vs) (formula f g ∷ us) h e = elim h.0 [ ]
  all_formulas (v ∷ vs) (either f g t u ∷ us) h e = cc
  all_formulas (v ∷ vs) (term t ∷ us) h e = cc
  all_formulas (v ∷ vs) (refused x ∷ us) h e = cc
  all_formulas [] (u ∷ us) h e = elim h [ ]
  all_formulas (v ∷ vs) [] h e = elim h [ ]

  pub each_of : {ps : List Pair} {us : List Unfolded} → Sames ps us → EachSame m point ps us
  each_of no_sames = tt
  each_of (more_sames h r) = (h, each_of r)

  append-sames : {ps qs : List Pair} {us vs : List Unfolded} → Sames ps us → Sames qs vs → Sames (ps ++ qs) (us ++ vs)
  append-sames no_sames k = k
  append-sames (more_sames h r) k = more_sames h (append-sames r k)

  -- ---- chains and pairs

  one-same : (p : Pair) (f g : Form Comparison) → Same m point p (formula f g) → Same m point (all_pair (p ∷ [])) (formula f g)
  one-same p f g h = record { pos = h.pos ∙ sym (and-true p.pos); neg = h.neg ∙ sym (or-false p.neg) }

  pub chain_means : {ps : List Pair} {us : List Unfolded} → Sames ps us → Means (bool (all_pair ps)) (chain us)
  chain_means no_sames = and_same m point [] [] tt
  chain_means (more_sames {p = p} {f = f} {g = g} h no_sames) = one-same p f g h
  chain_means (more_sames {p = p} {f = f} {g = g} h (more_sames {p = q} {f = f'} {g = g'} {ps = ps} {us = us} k r)) =
      and_same m point (p ∷ q ∷ ps) (formula f g ∷ formula f' g' ∷ us) (each_of (more_sames h (more_sames k r)))

  abbrev pub IsFormula : Unfolded → Type 0
  IsFormula (formula f g) = Unit {0}
  IsFormula u = ⊥

  pub same_first : (p : Pair) (u : Unfolded) → IsFormula u → Same m point p u → {ps : List Pair} {us : List Unfolded} → Sames ps us → Sames (p ∷ ps) (u ∷ us)
  same_first p (formula f g) i h r = more_sames h r
  same_first p (term t) i h r = elim i [ ]
  same_first p (refused x) i h r = elim i [ ]
  same_first p (either c d a b) i h r = elim i [ ]

  lift-formula : (f : Term → Unfolded) → ((t : Term) → IsFormula (f t)) → (u : Unfolded) → IsFormula (lift_form f u)
  lift-formula f g (term t) = g t
  lift-formula f g (formula p n) = g (term_in (formula p n))
  lift-formula f g (refused x) = g (term_in (refused x))
  lift-formula f g (either c d a b) = tt

  -- a comparison of two terms is a formula
  abbrev pub AreFormulas : (Term → Term → Unfolded) → Type 0
  AreFormulas f = (t u : Term) → IsFormula (f t u)

  pub compare_formula : (f : Term → Term → Unfolded) → AreFormulas f → (u v : Unfolded) → IsFormula (compare_two f u v)
  compare_formula f g u v = lift-formula (λ t. lift_form (f t) v) (λ t. lift-formula (f t) (g t) v) u

  pub neighbours_sames : (pair : Fraction → Fraction → Pair) (f : Term → Term → Unfolded) → Compares pair f → AreFormulas f →
      {vs : List Value} {us : List Unfolded} → Reals vs us → Sames (neighbours (compare_values pair) vs) (neighbours (compare_two f) us)
  neighbours_sames pair f c g no_reals = no_sames
  neighbours_sames pair f c g (more_reals r h no_reals) = no_sames
  neighbours_sames pair f c g (more_reals {v = v} {u = t} r h (more_reals {v = w} {u = u} s k rest)) =
      same_first (compare_values pair v w) (compare_two f t u) (compare_formula f g t u) (compare_says pair f c v w t u r s h k) (neighbours_sames pair f c g (more_reals s k rest))

  with-each : (pair : Value → Value → Pair) (f : Unfolded → Unfolded → Unfolded) (v : Value) (t : Unfolded) →
      ((w : Value) (u : Unfolded) → is_real_tree u ≡ true → Means w u → Same m point (pair v w) (f t u) × IsFormula (f t u)) →
      {vs : List Value} {us : List Unfolded} → Reals vs us → Sames (map (pair v) vs) (map (f t) us)
  with-each pair f v t g no_reals = no_sames
  with-each pair f v t g (more_reals {v = w} {u = u} r h rest) = let k = g w u r h in same_first (pair v w) (f t u) k.1 k.0 (with-each pair f v t g rest)

  -- f says of each two Real trees what the pair says of their values
  abbrev pub SaysOfTwo : (Value → Value → Pair) → (Unfolded → Unfolded → Unfolded) → Type 0
  SaysOfTwo pair f = (v w : Value) (t u : Unfolded) → is_real_tree t ≡ true → is_real_tree u ≡ true → Means v t → Means w u → Same m point (pair v w) (f t u) × IsFormula (f t u)

  pub pairs_sames : (pair : Value → Value → Pair) (f : Unfolded → Unfolded → Unfolded) → SaysOfTwo pair f →
      {vs : List Value} {us : List Unfolded} → Reals vs us → Sames (pairs pair vs) (pairs f us)
  pairs_sames pair f g no_reals = no_sames
  pairs_sames pair f g (more_reals {v = v} {u = t} r h rest) = append-sames (with-each pair f v t (λ w u s k. g v w t u r s h k) rest) (pairs_sames pair f g rest)

  -- ---- steps from left to right

  abbrev Steps : (Fraction → Fraction → Fraction) → (Term → Term → Unfolded) → Type 0
  Steps f g = (p q : Fraction) (t u : Term) → Num p t → Num q u → Means (real (f p q)) (g t u)

  -- a step of two trees is a Real tree or a fault
  abbrev pub RealSteps : (Term → Term → Unfolded) → Type 0
  RealSteps g = (t u : Term) → IsRealOr (g t u)

  step-means : (f : Fraction → Fraction → Fraction) (g : Term → Term → Unfolded) → Steps f g → (v w : Value) (t u : Unfolded) → IsRealOr t → IsRealOr u →
      Means v t → Means w u → Means (step_values f v w) (step g t u)
  step-means f g s v w t u r r' h k = lift_means (λ p. lift_value (λ q. real (f p q)) w) (λ x. lift_tree (g x) u)
      (λ p x n. lift_means (λ q. real (f p q)) (g x) (λ q y l. s p q x y n l) w u r' k) v t r h

  step-real : (g : Term → Term → Unfolded) → RealSteps g → (t u : Unfolded) → IsRealOr t → IsRealOr u → IsRealOr (step g t u)
  step-real g s t u h k = lift-real (λ x. lift_tree (g x) u) (λ x. lift-real (g x) (s x) u k) t h

  pub steps_means : (f : Fraction → Fraction → Fraction) (g : Term → Term → Unfolded) → Steps f g → RealSteps g → (v : Value) (u : Unfolded) → IsRealOr u → Means v u →
      {vs : List Value} {us : List Unfolded} → Reals vs us → Means (from_left (step_values f) v vs) (steps g u us)
  steps_means f g s r v u i h no_reals = h
  steps_means f g s r v u i h (more_reals {v = w} {u = t} e k rest) =
      steps_means f g s r (step_values f v w) (step g u t) (step-real g r u t i (real_or t e)) (step-means f g s v w u t i (real_or t e) h k) rest

  pub all_steps_means : (f : Fraction → Fraction → Fraction) (g : Term → Term → Unfolded) → Steps f g → RealSteps g →
      {vs : List Value} {us : List Unfolded} → Reals vs us → Means (first_and_rest (step_values f) (real zero_fraction) vs) (all_steps g us)
  all_steps_means f g s r no_reals = record { one = omega arith; other = omega arith; equal = ≈_refl zero_fraction }
  all_steps_means f g s r (more_reals {v = v} {u = t} e h rest) = steps_means f g s r v t (real_or t e) h rest

  pub constant_real : (at : Place) (b : Bool) (q : Fraction) → IsRealOr (constant_or at b q)
  constant_real at true q = tt
  constant_real at false q = tt

  pub add_real : (at : Place) → RealSteps (add_tree at)
  add_real at (constant p) (constant q) = constant_real at (sum_fits p q) (sum_of p q)
  add_real at _ _ = tt

  pub subtract_real : (at : Place) → RealSteps (subtract_tree at)
  subtract_real at t u = add_real at t (negate_tree u)

  pub multiply_real : (at : Place) → RealSteps (multiply_tree at)
  multiply_real at (constant p) (constant q) = constant_real at (product_fits p q) (product_of p q)
  multiply_real at _ _ = tt

  quotient-real : (b : Bool) (x : Fault) (u : Unfolded) → IsRealOr u → IsRealOr (cond b (refused x) u)
  quotient-real true x u h = tt
  quotient-real false x u h = h

  pub divide_real : (at : Place) → RealSteps (divide_tree at)
  divide_real at t (constant q) = quotient-real (is_nought q) (zero_divisor at) (multiply_tree at t (constant (inverse_of q))) (multiply_real at t (constant (inverse_of q)))
  divide_real at t _ = tt

  -- ---- atoms

  atom-same : (d : Fraction) (kind : Kind) (u : Unfolded) → IsFraction d → Means (real d) u → fault_of u ≡ None →
      in_range m kind (term_value point (term_in u)) ≡ in_range m kind d
  atom-same d kind (term t) f h e = sym (range_same kind d (term_value point t) h.one h.other h.equal)
  atom-same d kind (refused x) f h e = cc
  atom-same d kind (formula a b) f h e = elim h [ ]
  atom-same d kind (either a b t u) f h e = elim h [ ]

  -- the atom of a comparison without a fault holds where the comparison does
  pub atom_of_holds : (c : Comparison) → IsFraction (term_value point c.left) → IsFraction (term_value point c.right) → comparison_fault c ≡ None →
      atom_holds m point (atom_of c) ≡ comparison_holds m point c
  atom_of_holds c f g e = atom-same (difference_of (term_value point c.left) (term_value point c.right)) c.kind (comparison_tree c)
      (difference-fraction _ _ f g) (comparison_tree_means c f g) e

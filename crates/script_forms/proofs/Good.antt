-- The terms of a script's atoms are good: constants are fractions, variables are Real axes.
use Rattle.std.proofs.Common.{◌≡◌, ℕ, suc, zero, List, [], ◌∷◌, ◌++◌, map, Bool, true, false, cond, Option, Some, None, arith, length, ℤ, pos, negsuc, mul-pos, refl, subst, ◌∙◌, append_assoc, length-append}
use native.Mathlib.Nat.{one-le-pow}
use Rattle.std.specs.List.{AllByRecursion}
use Rattle.dyadic.specs.Fraction.{Fraction, IsFraction, zero_fraction, negated, sum_of, product_of, quotient_of, over, whole}
use Rattle.dyadic.specs.Point.{Sort, real_sort, bool_sort}
use Rattle.script_model.specs.Sexp.{Place}
use Rattle.script_model.specs.Reading.{literal_value, Operator, truth, falsehood, negation, conjunction, disjunction, implication, exclusive, equality, distinctness, choice, minus, plus, times, divide, at_most_op, below_op, at_least_op, above_op}
use Rattle.script_model.specs.Meaning.{neighbours, pairs}
use Rattle.script_model.specs.Script.{Command, sorts_of}
use Rattle.script_model.specs.Declared.{numbered}
use Rattle.script_model.proofs.Related.{Each, Respects, claims_alike, Nothing, said, silent}
use Rattle.poly_graph.specs.Term.{Term, constant, multiply, square, Atom}
use Rattle.poly_graph.specs.Form.{Form, Forms, yes_form, no_form, atom_is, bool_is, all_form, any_form, no_forms, more_forms, form_atoms, forms_atoms, form_map, forms_map}
use Rattle.poly_graph.specs.Problem.{HasSort, IsTerm}
use Rattle.dyadic.specs.Lowest.{sum_fits, product_fits}
use Rattle.script_forms.specs.Terms.{Comparison, Unfolded, term, formula, refused, ill_formed, zero_divisor, Fault, comparison_tree, is_zero, same_term, negate_tree, add_tree, multiply_tree, subtract_tree, divide_tree, inverse_of, subtraction_tree, step, steps, all_steps, constant_or, either, second_arm, arms, lift_tree, divisor_not_constant, hold_either, behind_first, quotient_tree, Times, once, twice, twice_and_once, once_more, power, repeats, stands_again, beside, gathered_with, gathered, powers_from, powers, factors, product_tree}
use Rattle.script_forms.specs.Unfolded.{truth_of, negation_form, term_in, forms_of, two, at_most_two, at_least_two, equal_two, and_of, or_of, not_of, xor_of, xor_from, xor_all, implies_of, choice_form, chain, not_first, different, checked, first_fault, unless_refused, takes, unfolded_operation, equality_form, distinctness_form, as_tree, at_most_terms, at_least_terms, equal_terms, lift_form, compare_two, differ_two, choice_two, choice_tree}
use Rattle.script_forms.specs.Atoms.{constant_tree, trees, whole_form, atoms_in_place, script_atoms, firsts, already, atom_of}
use Rattle.script_forms.proofs.Lowest.{reduced_same}

module _ (sorts : List Sort) where
  abbrev pub IsGoodTerm : Term → Type 0
  IsGoodTerm t = IsTerm sorts t

  abbrev pub IsGoodComparison : Comparison → Type 0
  IsGoodComparison c = IsGoodTerm c.left × IsGoodTerm c.right

  abbrev pub AreGood : List Comparison → Type 0
  AreGood cs = AllByRecursion IsGoodComparison cs

  abbrev pub IsGoodTree : Unfolded → Type 0
  IsGoodTree (term t) = IsGoodTerm t
  IsGoodTree (formula f g) = AreGood (form_atoms f) × AreGood (form_atoms g)
  IsGoodTree (refused x) = Unit {0}
  IsGoodTree (either f g u v) = (AreGood (form_atoms f) × AreGood (form_atoms g)) × IsGoodTree u × IsGoodTree v

  abbrev pub EachGood : List Unfolded → Type 0
  EachGood [] = Unit {0}
  EachGood (u ∷ us) = IsGoodTree u × EachGood us

  join : (xs ys : List Comparison) → AreGood xs → AreGood ys → AreGood (xs ++ ys)
  join [] ys h k = k
  join (x ∷ xs) ys h k = (h.0, join xs ys h.1 k)

  good-truth : (u : Unfolded) → IsGoodTree u → AreGood (form_atoms (truth_of u))
  good-truth (formula f g) h = h.0
  good-truth (term t) h = tt
  good-truth (refused x) h = tt
  good-truth (either f g u v) h = tt

  good-negation : (u : Unfolded) → IsGoodTree u → AreGood (form_atoms (negation_form u))
  good-negation (formula f g) h = h.1
  good-negation (term t) h = tt
  good-negation (refused x) h = tt
  good-negation (either f g u v) h = tt

  truths : (us : List Unfolded) → EachGood us → AreGood (forms_atoms (forms_of truth_of us))
  truths [] h = tt
  truths (u ∷ us) h = join (form_atoms (truth_of u)) (forms_atoms (forms_of truth_of us)) (good-truth u h.0) (truths us h.1)

  negations : (us : List Unfolded) → EachGood us → AreGood (forms_atoms (forms_of negation_form us))
  negations [] h = tt
  negations (u ∷ us) h = join (form_atoms (negation_form u)) (forms_atoms (forms_of negation_form us)) (good-negation u h.0) (negations us h.1)

  two-good : (f g : Form Comparison) → AreGood (form_atoms f) → AreGood (form_atoms g) → AreGood (forms_atoms (two f g))
  two-good f g h k = join (form_atoms f) (form_atoms g ++ []) h (join (form_atoms g) [] k tt)

  and-good : (us : List Unfolded) → EachGood us → IsGoodTree (and_of us)
  and-good us h = (truths us h, negations us h)

  or-good : (us : List Unfolded) → EachGood us → IsGoodTree (or_of us)
  or-good us h = (truths us h, negations us h)

  not-good : (u : Unfolded) → IsGoodTree u → IsGoodTree (not_of u)
  not-good u h = (good-negation u h, good-truth u h)

  xor-good : (u v : Unfolded) → IsGoodTree u → IsGoodTree v → IsGoodTree (xor_of u v)
  xor-good u v h k = (
    two-good (all_form (two (truth_of u) (negation_form v))) (all_form (two (negation_form u) (truth_of v)))
        (two-good (truth_of u) (negation_form v) (good-truth u h) (good-negation v k)) (two-good (negation_form u) (truth_of v) (good-negation u h) (good-truth v k)),
    two-good (all_form (two (truth_of u) (truth_of v))) (all_form (two (negation_form u) (negation_form v)))
        (two-good (truth_of u) (truth_of v) (good-truth u h) (good-truth v k)) (two-good (negation_form u) (negation_form v) (good-negation u h) (good-negation v k)),
  )

  implies-good : (us : List Unfolded) → EachGood us → IsGoodTree (implies_of us)
  implies-good [] h = (tt, tt)
  implies-good (u ∷ []) h = h.0
  implies-good (u ∷ v ∷ us) h = let k = implies-good (v ∷ us) h.1 in (
    two-good (negation_form u) (truth_of (implies_of (v ∷ us))) (good-negation u h.0) (good-truth (implies_of (v ∷ us)) k),
    two-good (truth_of u) (negation_form (implies_of (v ∷ us))) (good-truth u h.0) (good-negation (implies_of (v ∷ us)) k),
  )

  xor-from-good : (u : Unfolded) (us : List Unfolded) → IsGoodTree u → EachGood us → IsGoodTree (xor_from u us)
  xor-from-good u [] h k = h
  xor-from-good u (v ∷ us) h k = xor-from-good (xor_of u v) us (xor-good u v h k.0) k.1

  xor-all-good : (us : List Unfolded) → EachGood us → IsGoodTree (xor_all us)
  xor-all-good [] h = (tt, tt)
  xor-all-good (u ∷ us) h = xor-from-good u us h.0 h.1

  choice-good : (us : List Unfolded) → EachGood us → IsGoodTree (choice_form us)
  choice-good (u ∷ v ∷ w ∷ us) h = (
    two-good (all_form (two (truth_of u) (truth_of v))) (all_form (two (negation_form u) (truth_of w)))
        (two-good (truth_of u) (truth_of v) (good-truth u h.0) (good-truth v h.1.0)) (two-good (negation_form u) (truth_of w) (good-negation u h.0) (good-truth w h.1.1.0)),
    two-good (all_form (two (truth_of u) (negation_form v))) (all_form (two (negation_form u) (negation_form w)))
        (two-good (truth_of u) (negation_form v) (good-truth u h.0) (good-negation v h.1.0)) (two-good (negation_form u) (negation_form w) (good-negation u h.0) (good-negation w h.1.1.0)),
  )
  choice-good _ h = (tt, tt)

  chain-good : (us : List Unfolded) → EachGood us → IsGoodTree (chain us)
  chain-good [] h = and-good [] h
  chain-good (u ∷ []) h = h.0
  chain-good (u ∷ v ∷ us) h = and-good (u ∷ v ∷ us) h

  unless-good : (o : Option Fault) (u : Unfolded) → IsGoodTree u → IsGoodTree (unless_refused o u)
  unless-good (Some x) u h = tt
  unless-good None u h = h

  checked-good : (us : List Unfolded) (u : Unfolded) → IsGoodTree u → IsGoodTree (checked us u)
  checked-good us u h = unless-good (first_fault us) u h

  neighbours-good : (f : Unfolded → Unfolded → Unfolded) → ((u v : Unfolded) → IsGoodTree u → IsGoodTree v → IsGoodTree (f u v)) → (us : List Unfolded) → EachGood us → EachGood (neighbours f us)
  neighbours-good f k [] h = tt
  neighbours-good f k (u ∷ []) h = tt
  neighbours-good f k (u ∷ v ∷ us) h = (k u v h.0 h.1.0, neighbours-good f k (v ∷ us) h.1)

  map-good : (f : Unfolded → Unfolded) → ((v : Unfolded) → IsGoodTree v → IsGoodTree (f v)) → (us : List Unfolded) → EachGood us → EachGood (map f us)
  map-good f k [] h = tt
  map-good f k (u ∷ us) h = (k u h.0, map-good f k us h.1)

  append-good : (us vs : List Unfolded) → EachGood us → EachGood vs → EachGood (us ++ vs)
  append-good [] vs h k = k
  append-good (u ∷ us) vs h k = (h.0, append-good us vs h.1 k)

  pairs-good : (f : Unfolded → Unfolded → Unfolded) → ((u v : Unfolded) → IsGoodTree u → IsGoodTree v → IsGoodTree (f u v)) → (us : List Unfolded) → EachGood us → EachGood (pairs f us)
  pairs-good f k [] h = tt
  pairs-good f k (u ∷ us) h = append-good (map (f u) us) (pairs f us) (map-good (f u) (λ v g. k u v h.0 g) us h.1) (pairs-good f k us h.1)

  -- ---- terms

  constant-good : (at : Place) (b : Bool) (q : Fraction) → IsFraction q → IsGoodTree (constant_or at b q)
  constant-good at true q h = (reduced_same q h).0
  constant-good at false q h = tt

  negate-good : (t : Term) → IsGoodTerm t → IsGoodTerm (negate_tree t)
  unfolding negated
  negate-good (constant q) h = h
  negate-good _ h = h

  add-good : (at : Place) (t u : Term) → IsGoodTerm t → IsGoodTerm u → IsGoodTree (add_tree at t u)
  unfolding sum_of
  add-good at (constant p) (constant q) h k = constant-good at (sum_fits p q) (sum_of p q) (mul-pos h k)
  add-good at t u h k = (h, k)

  square-or : (b : Bool) (t u : Term) → IsGoodTerm t → IsGoodTerm u → IsGoodTerm (cond b (square t) (multiply t u))
  square-or true t u h k = h
  square-or false t u h k = (h, k)

  multiply-good : (at : Place) (t u : Term) → IsGoodTerm t → IsGoodTerm u → IsGoodTree (multiply_tree at t u)
  unfolding product_of
  multiply-good at (constant p) (constant q) h k = constant-good at (product_fits p q) (product_of p q) (mul-pos h k)
  multiply-good at t u h k = square-or (same_term t u) t u h k

  subtract-good : (at : Place) (t u : Term) → IsGoodTerm t → IsGoodTerm u → IsGoodTree (subtract_tree at t u)
  subtract-good at t u h k = add-good at t (negate_tree u) h (negate-good u k)

  over-good : (a : Fraction) (n : ℤ) (d : ℕ) → IsFraction a → IsFraction (over a n d)
  over-good a (pos zero) d h = omega arith
  over-good a (pos (suc n)) d h = mul-pos h (omega arith)
  over-good a (negsuc n) d h = mul-pos h (omega arith)

  inverse-good : (q : Fraction) → IsFraction (inverse_of q)
  unfolding quotient_of
  inverse-good q = (reduced_same (quotient_of (whole (pos 1)) q) (over-good (whole (pos 1)) q.num q.den (omega arith))).0

  choose-good : (b : Bool) (u v : Unfolded) → IsGoodTree u → IsGoodTree v → IsGoodTree (cond b u v)
  choose-good true u v h k = h
  choose-good false u v h k = k

  divide-good : (at : Place) (t u : Term) → IsGoodTerm t → IsGoodTerm u → IsGoodTree (divide_tree at t u)
  divide-good at t (constant q) h k = choose-good _ (refused (zero_divisor at)) (multiply_tree at t (constant (inverse_of q))) tt
      (multiply-good at t (constant (inverse_of q)) h (inverse-good q))
  divide-good at t _ h k = tt

  abbrev GoodStep : (Term → Term → Unfolded) → Type 0
  GoodStep f = (t u : Term) → IsGoodTerm t → IsGoodTerm u → IsGoodTree (f t u)

  second-good : (c d : Form Comparison) (u v : Unfolded) → AreGood (form_atoms c) × AreGood (form_atoms d) → IsGoodTree u → IsGoodTree v → IsGoodTree (second_arm c d u v)
  second-good c d u (refused x) h k l = tt
  second-good c d u (term t) h k l = (h, k, l)
  second-good c d u (formula f g) h k l = (h, k, l)
  second-good c d u (either f g x y) h k l = (h, k, l)

  arms-good : (c d : Form Comparison) (u v : Unfolded) → AreGood (form_atoms c) × AreGood (form_atoms d) → IsGoodTree u → IsGoodTree v → IsGoodTree (arms c d u v)
  arms-good c d (refused x) v h k l = tt
  arms-good c d (term t) v h k l = second-good c d (term t) v h k l
  arms-good c d (formula f g) v h k l = second-good c d (formula f g) v h k l
  arms-good c d (either f g x y) v h k l = second-good c d (either f g x y) v h k l

  lift-good : (f : Term → Unfolded) → ((t : Term) → IsGoodTerm t → IsGoodTree (f t)) → (u : Unfolded) → IsGoodTree u → IsGoodTree (lift_tree f u)
  lift-good f g (term t) h = g t h
  lift-good f g (formula p n) h = h
  lift-good f g (refused x) h = tt
  lift-good f g (either c d u v) h = arms-good c d (lift_tree f u) (lift_tree f v) h.0 (lift-good f g u h.1) (lift-good f g v h.2)

  step-good : (f : Term → Term → Unfolded) → GoodStep f → (u v : Unfolded) → IsGoodTree u → IsGoodTree v → IsGoodTree (step f u v)
  step-good f g u v h k = lift-good (λ t. lift_tree (f t) v) (λ t i. lift-good (f t) (λ x j. g t x i j) v k) u h

  steps-good : (f : Term → Term → Unfolded) → GoodStep f → (u : Unfolded) (us : List Unfolded) → IsGoodTree u → EachGood us → IsGoodTree (steps f u us)
  steps-good f g u [] h k = h
  steps-good f g u (v ∷ us) h k = steps-good f g (step f u v) us (step-good f g u v h k.0) k.1

  all-steps-good : (f : Term → Term → Unfolded) → GoodStep f → (us : List Unfolded) → EachGood us → IsGoodTree (all_steps f us)
  all-steps-good f g [] h = omega arith
  all-steps-good f g (u ∷ us) h = steps-good f g u us h.0 h.1

  subtraction-good : (at : Place) (us : List Unfolded) → EachGood us → IsGoodTree (subtraction_tree at us)
  subtraction-good at [] h = omega arith
  subtraction-good at (u ∷ []) h = lift-good (λ t. term (negate_tree t)) (λ t i. negate-good t i) u h.0
  subtraction-good at (u ∷ v ∷ us) h = steps-good (subtract_tree at) (subtract-good at) u (v ∷ us) h.0 h.1

  power-good : (n : Times) (t : Term) → IsGoodTerm t → IsGoodTerm (power n t)
  power-good once t h = h
  power-good (twice n) t h = power-good n t h
  power-good (twice_and_once n) t h = (h, power-good n t h)

  choose-each : (b : Bool) (us vs : List Unfolded) → EachGood us → EachGood vs → EachGood (cond b us vs)
  choose-each true us vs h k = h
  choose-each false us vs h k = k

  powers-from-good : (t : Term) (n : Times) (us : List Unfolded) → IsGoodTerm t → EachGood us → EachGood (powers_from t n us)
  powers-from-good t n [] g h = (power-good n t g, tt)
  powers-from-good t n (term u ∷ us) g h = choose-each (repeats t u) (powers_from t (once_more n) us) (term (power n t) ∷ powers_from u once us)
      (powers-from-good t (once_more n) us g h.1) (power-good n t g, powers-from-good u once us h.0 h.1)
  powers-from-good t n (formula f f' ∷ us) g h = (power-good n t g, h)
  powers-from-good t n (refused x ∷ us) g h = (power-good n t g, h)
  powers-from-good t n (either c d a b ∷ us) g h = (power-good n t g, h)

  powers-good : (us : List Unfolded) → EachGood us → EachGood (powers us)
  powers-good [] h = h
  powers-good (term t ∷ us) h = powers-from-good t once us h.0 h.1
  powers-good (formula f g ∷ us) h = h
  powers-good (refused x ∷ us) h = h
  powers-good (either c d a b ∷ us) h = h

  beside-good : (u : Unfolded) (vs : List Unfolded) → IsGoodTree u → EachGood vs → EachGood (beside u vs)
  beside-good u [] h k = (h, tt)
  beside-good u (v ∷ vs) h k = choose-each (stands_again v u) (v ∷ u ∷ vs) (v ∷ beside u vs) (k.0, (h, k.1)) (k.0, beside-good u vs h k.1)

  gathered-good : (vs us : List Unfolded) → EachGood vs → EachGood us → EachGood (gathered_with vs us)
  gathered-good vs [] h k = h
  gathered-good vs (u ∷ us) h k = gathered-good (beside u vs) us (beside-good u vs k.0 h) k.1

  product-good : (at : Place) (us : List Unfolded) → EachGood us → IsGoodTree (product_tree at us)
  product-good at us h = all-steps-good (multiply_tree at) (multiply-good at) (factors us) (choose-each (hold_either us) us (powers (gathered us)) h (powers-good (gathered us) (gathered-good [] us tt h)))

  quotient-good : (at : Place) (us : List Unfolded) → EachGood us → IsGoodTree (quotient_tree at us)
  quotient-good at us h = choose-good (hold_either (behind_first us)) (refused (divisor_not_constant at)) (all_steps (divide_tree at) us) tt (all-steps-good (divide_tree at) (divide-good at) us h)

  -- ---- comparisons

  term-in-good : (u : Unfolded) → IsGoodTree u → IsGoodTerm (term_in u)
  term-in-good (term t) h = h
  term-in-good (formula f g) h = omega arith
  term-in-good (refused x) h = omega arith
  term-in-good (either f g u v) h = omega arith

  form-good : (f : Term → Unfolded) → ((t : Term) → IsGoodTerm t → IsGoodTree (f t)) → (u : Unfolded) → IsGoodTree u → IsGoodTree (lift_form f u)
  form-good f g (term t) h = g t h
  form-good f g (formula p n) h = g (constant zero_fraction) (omega arith)
  form-good f g (refused x) h = g (constant zero_fraction) (omega arith)
  form-good f g (either c d u v) h = choice-good (formula c d ∷ lift_form f u ∷ lift_form f v ∷ []) (h.0, (form-good f g u h.1, (form-good f g v h.2, tt)))

  two-terms-good : (f : Term → Term → Unfolded) → GoodStep f → (u v : Unfolded) → IsGoodTree u → IsGoodTree v → IsGoodTree (compare_two f u v)
  two-terms-good f g u v h k = form-good (λ t. lift_form (f t) v) (λ t i. form-good (f t) (λ x j. g t x i j) v k) u h

  at-most-good : (at : Place) (u v : Unfolded) → IsGoodTree u → IsGoodTree v → IsGoodTree (at_most_two at u v)
  at-most-good at u v h k = two-terms-good (at_most_terms at) (λ t x i j. (((i, j), tt), ((i, j), tt))) u v h k

  at-least-good : (at : Place) (u v : Unfolded) → IsGoodTree u → IsGoodTree v → IsGoodTree (at_least_two at u v)
  at-least-good at u v h k = two-terms-good (at_least_terms at) (λ t x i j. (((i, j), tt), ((i, j), tt))) u v h k

  equal-good : (at : Place) (u v : Unfolded) → IsGoodTree u → IsGoodTree v → IsGoodTree (equal_two at u v)
  equal-good at u v h k = two-terms-good (equal_terms at) (λ t x i j. (((i, j), tt), tt)) u v h k

  differ-good : (at : Place) (u v : Unfolded) → IsGoodTree u → IsGoodTree v → IsGoodTree (differ_two at u v)
  differ-good at u v h k = not-good (equal_two at u v) (equal-good at u v h k)

  -- the tree of a comparison of good terms is good
  pub comparison-tree-good : (c : Comparison) → IsGoodComparison c → IsGoodTerm (term_in (comparison_tree c))
  comparison-tree-good c h = term-in-good (comparison_tree c)
      (choose-good (is_zero c.right) (term c.left) (subtract_tree c.at c.left c.right) h.0 (subtract-good c.at c.left c.right h.0 h.1))

  -- ---- operators

  chain-of-good : (f : Unfolded → Unfolded → Unfolded) → ((u v : Unfolded) → IsGoodTree u → IsGoodTree v → IsGoodTree (f u v)) → (us : List Unfolded) → EachGood us → IsGoodTree (chain (neighbours f us))
  chain-of-good f g us h = chain-good (neighbours f us) (neighbours-good f g us h)

  equality-good : (at : Place) (us : List Unfolded) → EachGood us → IsGoodTree (equality_form at us)
  equality-good at (formula f g ∷ us) h = chain-of-good (λ a b. not_of (xor_of a b)) (λ u v k l. not-good (xor_of u v) (xor-good u v k l)) (formula f g ∷ us) h
  equality-good at [] h = chain-of-good (equal_two at) (equal-good at) [] h
  equality-good at (term t ∷ us) h = chain-of-good (equal_two at) (equal-good at) (term t ∷ us) h
  equality-good at (either f g u v ∷ us) h = chain-of-good (equal_two at) (equal-good at) (either f g u v ∷ us) h
  equality-good at (refused x ∷ us) h = chain-of-good (equal_two at) (equal-good at) (refused x ∷ us) h

  different-good : (at : Place) (us : List Unfolded) → EachGood us → IsGoodTree (different (pairs (equal_two at) us))
  different-good at us h = (tt, truths (pairs (equal_two at) us) (pairs-good (equal_two at) (equal-good at) us h))

  distinct-reals-good : (at : Place) (us : List Unfolded) → EachGood us → IsGoodTree (cond (hold_either us) (and_of (pairs (differ_two at) us)) (different (pairs (equal_two at) us)))
  distinct-reals-good at us h = choose-good (hold_either us) (and_of (pairs (differ_two at) us)) (different (pairs (equal_two at) us))
      (and-good (pairs (differ_two at) us) (pairs-good (differ_two at) (differ-good at) us h)) (different-good at us h)

  distinctness-good : (at : Place) (us : List Unfolded) → EachGood us → IsGoodTree (distinctness_form at us)
  distinctness-good at (formula f g ∷ us) h = and-good (pairs xor_of (formula f g ∷ us)) (pairs-good xor_of xor-good (formula f g ∷ us) h)
  distinctness-good at [] h = distinct-reals-good at [] h
  distinctness-good at (term t ∷ us) h = distinct-reals-good at (term t ∷ us) h
  distinctness-good at (refused x ∷ us) h = distinct-reals-good at (refused x ∷ us) h
  distinctness-good at (either f g u v ∷ us) h = distinct-reals-good at (either f g u v ∷ us) h

  pick-good : (c u v : Unfolded) → IsGoodTree c → IsGoodTree u → IsGoodTree v → IsGoodTree (choice_two c u v)
  pick-good c (formula f g) v h k l = choice-good (c ∷ formula f g ∷ v ∷ []) (h, (k, (l, tt)))
  pick-good c (term t) v h k l = ((good-truth c h, good-negation c h), k, l)
  pick-good c (refused x) v h k l = ((good-truth c h, good-negation c h), k, l)
  pick-good c (either f g x y) v h k l = ((good-truth c h, good-negation c h), k, l)

  choice-tree-good : (us : List Unfolded) → EachGood us → IsGoodTree (choice_tree us)
  choice-tree-good (c ∷ u ∷ v ∷ us) h = pick-good c u v h.0 h.1.0 h.1.1.0
  choice-tree-good [] h = (tt, tt)
  choice-tree-good (c ∷ []) h = (tt, tt)
  choice-tree-good (c ∷ u ∷ []) h = (tt, tt)

  not-first-good : (us : List Unfolded) → EachGood us → IsGoodTree (not_first us)
  not-first-good [] h = (tt, tt)
  not-first-good (u ∷ us) h = not-good u h.0

  operation-good : (at : Place) (op : Operator) (us : List Unfolded) → EachGood us → IsGoodTree (unfolded_operation at op us)
  operation-good at truth us h = (tt, tt)
  operation-good at falsehood us h = (tt, tt)
  operation-good at negation us h = not-first-good us h
  operation-good at conjunction us h = and-good us h
  operation-good at disjunction us h = or-good us h
  operation-good at implication us h = implies-good us h
  operation-good at exclusive us h = xor-all-good us h
  operation-good at equality us h = equality-good at us h
  operation-good at distinctness us h = distinctness-good at us h
  operation-good at choice us h = choice-tree-good us h
  operation-good at minus us h = subtraction-good at us h
  operation-good at plus us h = all-steps-good (add_tree at) (add-good at) us h
  operation-good at times us h = product-good at us h
  operation-good at divide us h = quotient-good at us h
  operation-good at at_most_op us h = chain-of-good (at_most_two at) (at-most-good at) us h
  operation-good at below_op us h = chain-of-good (at_most_two at) (at-most-good at) us h
  operation-good at at_least_op us h = chain-of-good (at_least_two at) (at-least-good at) us h
  operation-good at above_op us h = chain-of-good (at_least_two at) (at-least-good at) us h

  abbrev pub Good : Nothing → Unfolded → Type 0
  Good v u = IsGoodTree u

  each-good : (vs : List Nothing) (us : List Unfolded) → Each Good vs us → EachGood us
  each-good [] [] h = tt
  each-good (v ∷ vs) (u ∷ us) h = (h.0, each-good vs us h.1)
  each-good [] (u ∷ us) h = elim h [ ]
  each-good (v ∷ vs) [] h = elim h [ ]

  -- the trees of a script are good, where those of its constants are (by claims_alike)
  pub good_respects : Respects Good silent as_tree
  good_respects = record {
    literal = λ at digits more_digits. (reduced_same (literal_value digits more_digits) (one-le-pow (length more_digits) 10 (omega arith))).0;
    named = λ at v u h. h;
    annotated = λ at v u h. h;
    apply = λ at op vs us h. checked-good us (cond (takes op us) (unfolded_operation at op us) (refused (ill_formed at)))
        (choose-good (takes op us) (unfolded_operation at op us) (refused (ill_formed at)) (operation-good at op us (each-good vs us h)) tt);
    bind = λ at names vs us v u h k. checked-good us u k;
    call = λ at vs us v u h k. checked-good us u k;
    nothing = λ at why. tt;
  }

-- ---- the atoms of a script

real-at : (before after : List Sort) → HasSort real_sort (before ++ (real_sort ∷ after)) (length before)
real-at [] after = tt
real-at (real_sort ∷ before) after = real-at before after
real-at (bool_sort ∷ before) after = real-at before after

module _ (sorts : List Sort) where
  each-silent : (us : List Unfolded) → EachGood sorts us → Each (Good sorts) (map (λ u. said) us) us
  each-silent [] h = tt
  each-silent (u ∷ us) h = (h.0, each-silent us h.1)

  constants-good : (before after : List Sort) → before ++ after ≡ sorts → EachGood sorts (numbered constant_tree (length before) after)
  constants-good before [] e = tt
  constants-good before (real_sort ∷ after) e = (
    subst (λ (s : List Sort). HasSort real_sort s (length before)) e (real-at before after),
    subst (λ (n : ℕ). EachGood sorts (numbered constant_tree n after)) (length-append before (real_sort ∷ []) ∙ omega arith) (constants-good (before ++ (real_sort ∷ [])) after (append_assoc before (real_sort ∷ []) after ∙ e)),
  )
  constants-good before (bool_sort ∷ after) e = (
    (tt, tt),
    subst (λ (n : ℕ). EachGood sorts (numbered constant_tree n after)) (length-append before (bool_sort ∷ []) ∙ omega arith) (constants-good (before ++ (bool_sort ∷ [])) after (append_assoc before (bool_sort ∷ []) after ∙ e)),
  )

  all-good : (vs : List Nothing) (us : List Unfolded) → Each (Good sorts) vs us → EachGood sorts us
  all-good [] [] h = tt
  all-good (v ∷ vs) (u ∷ us) h = (h.0, all-good vs us h.1)
  all-good [] (u ∷ us) h = elim h [ ]
  all-good (v ∷ vs) [] h = elim h [ ]

  abbrev pub GoodAtoms : List Atom → Type 0
  GoodAtoms xs = AllByRecursion (λ (a : Atom). IsTerm sorts a.0) xs

  join-atoms : (xs ys : List Atom) → GoodAtoms xs → GoodAtoms ys → GoodAtoms (xs ++ ys)
  join-atoms [] ys h k = k
  join-atoms (x ∷ xs) ys h k = (h.0, join-atoms xs ys h.1 k)

  split-left : (xs ys : List Comparison) → AreGood sorts (xs ++ ys) → AreGood sorts xs
  split-left [] ys h = tt
  split-left (x ∷ xs) ys h = (h.0, split-left xs ys h.1)

  split-right : (xs ys : List Comparison) → AreGood sorts (xs ++ ys) → AreGood sorts ys
  split-right [] ys h = h
  split-right (x ∷ xs) ys h = split-right xs ys h.1

  -- the atoms of good comparisons are good
  mutual
    made-good : (f : Form Comparison) → AreGood sorts (form_atoms f) → GoodAtoms (form_atoms (form_map atom_of f))
    made-good yes_form h = tt
    made-good no_form h = tt
    made-good (atom_is c) h = (comparison-tree-good sorts c h.0, tt)
    made-good (bool_is axis v) h = tt
    made-good (all_form fs) h = mades-good fs h
    made-good (any_form fs) h = mades-good fs h

    mades-good : (fs : Forms Comparison) → AreGood sorts (forms_atoms fs) → GoodAtoms (forms_atoms (forms_map atom_of fs))
    mades-good no_forms h = tt
    mades-good (more_forms f fs) h = join-atoms (form_atoms (form_map atom_of f)) (forms_atoms (forms_map atom_of fs))
        (made-good f (split-left (form_atoms f) (forms_atoms fs) h)) (mades-good fs (split-right (form_atoms f) (forms_atoms fs) h))

  cond-good : (t : Bool) (xs ys : List Atom) → GoodAtoms xs → GoodAtoms ys → GoodAtoms (cond t xs ys)
  cond-good true xs ys h k = h
  cond-good false xs ys h k = k

  firsts-good : (seen xs : List Atom) → GoodAtoms seen → GoodAtoms xs → GoodAtoms (firsts seen xs)
  firsts-good seen [] h k = h
  firsts-good seen (x ∷ xs) h k = firsts-good (cond (already x seen) seen (seen ++ (x ∷ []))) xs (cond-good (already x seen) seen (seen ++ (x ∷ [])) h (join-atoms seen (x ∷ []) h (k.0, tt))) k.1

-- the comparisons that stand in a script's form are good
pub comparisons_good : (script : List Command) → AreGood (sorts_of script) (form_atoms (whole_form script))
comparisons_good script =
    let sorts : List Sort = sorts_of script in
    let constants : List Unfolded = numbered constant_tree 0 sorts in
    truths sorts (trees script) (all-good sorts _ (trees script)
    (claims_alike (Good sorts) silent as_tree (good_respects sorts) [] [] tt (map (λ u. said) constants) constants (each-silent sorts constants (constants-good sorts [] sorts refl)) script))

-- every atom of a script has a good term
pub script_good : (script : List Command) → GoodAtoms (sorts_of script) (script_atoms script)
script_good script = firsts-good (sorts_of script) [] (form_atoms (atoms_in_place script)) tt
    (made-good (sorts_of script) (whole_form script) (comparisons_good script))

-- An operator at arguments that it takes gives a tree of its sort.
use Rattle.std.proofs.Common.{◌≡◌, List, [], ◌∷◌, Bool, true, false, ◌&&◌, cond, refl}
use Rattle.dyadic.specs.Fraction.{Fraction}
use Rattle.script_model.specs.Sexp.{Place}
use Rattle.script_model.specs.Meaning.{neighbours, pairs}
use Rattle.script_forms.proofs.Means.{both_true}
use Rattle.script_forms.proofs.Powers.{factors_terms}
use Rattle.poly_graph.specs.Term.{Term, constant}
use Rattle.poly_graph.specs.Form.{Form}
use Rattle.script_forms.specs.Terms.{zero_divisor, Comparison, Unfolded, term, formula, refused, constant_or, add_tree, multiply_tree, subtract_tree, divide_tree, step, steps, all_steps, subtraction_tree, comparison_tree, is_zero, is_nought, negate_tree, inverse_of, either, arms, lift_tree, hold_either, behind_first, factors, product_tree, quotient_tree, divisor_not_constant}
use Rattle.script_forms.specs.Unfolded.{implies_of, xor_of, xor_from, xor_all, choice_form, not_of, not_first, chain, equal_two, equality_form, distinctness_form, are_terms, are_formulas, is_real_tree, choice_two, choice_tree, lift_form, compare_two, equal_terms, differ_two, and_of, different}
use Rattle.script_reading.specs.WellSorted.{IsSound}

-- of a Real expression, and of a Bool one
abbrev pub IsRealTree : Unfolded → Type 0
IsRealTree (term t) = Unit {0}
IsRealTree (refused x) = IsSound x
IsRealTree (formula f g) = ⊥
IsRealTree (either c d a b) = is_real_tree (either c d a b) ≡ true

abbrev pub IsFormula : Unfolded → Type 0
IsFormula (formula f g) = Unit {0}
IsFormula (term t) = ⊥
IsFormula (refused x) = ⊥
IsFormula (either c d a b) = ⊥

-- ---- terms

constant-real : (at : Place) (b : Bool) (q : Fraction) → IsRealTree (constant_or at b q)
constant-real at true q = tt
constant-real at false q = tt

add-real : (at : Place) (t u : Term) → IsRealTree (add_tree at t u)
add-real at (constant p) (constant q) = constant-real at _ _
add-real at t u = tt

subtract-real : (at : Place) (t u : Term) → IsRealTree (subtract_tree at t u)
subtract-real at t u = add-real at t (negate_tree u)

multiply-real : (at : Place) (t u : Term) → IsRealTree (multiply_tree at t u)
multiply-real at (constant p) (constant q) = constant-real at _ _
multiply-real at t u = tt

either-real : (b : Bool) (u v : Unfolded) → IsRealTree u → IsRealTree v → IsRealTree (cond b u v)
either-real true u v h k = h
either-real false u v h k = k

divide-real : (at : Place) (t u : Term) → IsRealTree (divide_tree at t u)
divide-real at t (constant q) = either-real (is_nought q) (refused (zero_divisor at)) (multiply_tree at t (constant (inverse_of q))) tt (multiply-real at t (constant (inverse_of q)))
divide-real at t _ = tt

abbrev Steps : (Term → Term → Unfolded) → Type 0
Steps f = (t u : Term) → IsRealTree (f t u)

-- ---- Real `ite`

both-real : (x y : Bool) → x ≡ true → y ≡ true → x && y ≡ true
both-real true y h k = k
both-real false y h k = h

pub real_tree : (u : Unfolded) → is_real_tree u ≡ true → IsRealTree u
real_tree (term t) e = tt
real_tree (either c d a b) e = e
real_tree (formula f g) e = cc
real_tree (refused x) e = cc

arms-real : (c d : Form Comparison) (a b : Unfolded) → IsRealTree a → IsRealTree b → IsRealTree (arms c d a b)
arms-real c d (refused x) b h k = h
arms-real c d (term t) (refused x) h k = k
arms-real c d (term t) (term u) h k = refl
arms-real c d (term t) (either f g x y) h k = k
arms-real c d (either f g x y) (refused z) h k = k
arms-real c d (either f g x y) (term u) h k = both-real (is_real_tree x && is_real_tree y) true h refl
arms-real c d (either f g x y) (either f' g' x' y') h k = both-real (is_real_tree x && is_real_tree y) (is_real_tree x' && is_real_tree y') h k
arms-real c d (formula p n) b h k = elim h [ ]
arms-real c d (term t) (formula p n) h k = elim k [ ]
arms-real c d (either f g x y) (formula p n) h k = elim k [ ]

lift-real : (f : Term → Unfolded) → ((t : Term) → IsRealTree (f t)) → (u : Unfolded) → IsRealTree u → IsRealTree (lift_tree f u)
lift-real f h (term t) r = h t
lift-real f h (refused x) r = r
lift-real f h (either c d a b) r = let e = both_true (is_real_tree a) (is_real_tree b) r in
    arms-real c d (lift_tree f a) (lift_tree f b) (lift-real f h a (real_tree a e.0)) (lift-real f h b (real_tree b e.1))
lift-real f h (formula p n) r = elim r [ ]

-- ---- steps

step-real : (f : Term → Term → Unfolded) → Steps f → (u v : Unfolded) → IsRealTree u → IsRealTree v → IsRealTree (step f u v)
step-real f g u v h k = lift-real (λ t. lift_tree (f t) v) (λ t. lift-real (f t) (g t) v k) u h

steps-real : (f : Term → Term → Unfolded) → Steps f → (u : Unfolded) (us : List Unfolded) → IsRealTree u → are_terms us ≡ true → IsRealTree (steps f u us)
steps-real f g u [] h e = h
steps-real f g u (v ∷ us) h e = let b = both_true (is_real_tree v) (are_terms us) e in steps-real f g (step f u v) us (step-real f g u v h (real_tree v b.0)) b.1

pub all_steps_real : (f : Term → Term → Unfolded) → Steps f → (us : List Unfolded) → are_terms us ≡ true → IsRealTree (all_steps f us)
all_steps_real f g [] e = tt
all_steps_real f g (u ∷ us) e = let b = both_true (is_real_tree u) (are_terms us) e in steps-real f g u us (real_tree u b.0) b.1

pub subtraction_real : (at : Place) (us : List Unfolded) → are_terms us ≡ true → IsRealTree (subtraction_tree at us)
subtraction_real at [] e = tt
subtraction_real at (u ∷ []) e = lift-real (λ t. term (negate_tree t)) (λ t. tt) u (real_tree u (both_true (is_real_tree u) true e).0)
subtraction_real at (u ∷ v ∷ us) e = all_steps_real (subtract_tree at) (subtract-real at) (u ∷ v ∷ us) e

pub sum_real : (at : Place) (us : List Unfolded) → are_terms us ≡ true → IsRealTree (all_steps (add_tree at) us)
sum_real at us e = all_steps_real (add_tree at) (add-real at) us e

pub product_real : (at : Place) (us : List Unfolded) → are_terms us ≡ true → IsRealTree (product_tree at us)
product_real at us e = all_steps_real (multiply_tree at) (multiply-real at) (factors us) (factors_terms us e)

pub quotient_real : (at : Place) (us : List Unfolded) → are_terms us ≡ true → IsRealTree (quotient_tree at us)
quotient_real at us e = either-real (hold_either (behind_first us)) (refused (divisor_not_constant at)) (all_steps (divide_tree at) us) tt (all_steps_real (divide_tree at) (divide-real at) us e)

pub comparison_real : (c : Comparison) → IsRealTree (comparison_tree c)
comparison_real c = either-real (is_zero c.right) (term c.left) (subtract_tree c.at c.left c.right) tt (subtract-real c.at c.left c.right)

-- ---- formulas

pub implies_formula : (us : List Unfolded) → are_formulas us ≡ true → IsFormula (implies_of us)
implies_formula [] e = tt
implies_formula (formula f g ∷ []) e = tt
implies_formula (u ∷ v ∷ us) e = tt
implies_formula (term t ∷ []) e = cc
implies_formula (refused x ∷ []) e = cc
implies_formula (either c d a b ∷ []) e = cc

xor-from-formula : (u : Unfolded) (us : List Unfolded) → IsFormula u → IsFormula (xor_from u us)
xor-from-formula u [] h = h
xor-from-formula u (v ∷ us) h = xor-from-formula (xor_of u v) us tt

pub xor_formula : (us : List Unfolded) → are_formulas us ≡ true → IsFormula (xor_all us)
xor_formula [] e = tt
xor_formula (formula f g ∷ us) e = xor-from-formula (formula f g) us tt
xor_formula (term t ∷ us) e = cc
xor_formula (refused x ∷ us) e = cc
xor_formula (either c d a b ∷ us) e = cc

pub choice_formula : (us : List Unfolded) → IsFormula (choice_form us)
choice_formula (c ∷ a ∷ b ∷ us) = tt
choice_formula [] = tt
choice_formula (c ∷ []) = tt
choice_formula (c ∷ a ∷ []) = tt

pub not_formula : (us : List Unfolded) → IsFormula (not_first us)
not_formula [] = tt
not_formula (u ∷ us) = tt

-- a chain of pairs, each a formula
pub chain_formula : (f : Unfolded → Unfolded → Unfolded) → ((u v : Unfolded) → IsFormula (f u v)) → (us : List Unfolded) → IsFormula (chain (neighbours f us))
chain_formula f g [] = tt
chain_formula f g (u ∷ []) = tt
chain_formula f g (u ∷ v ∷ []) = g u v
chain_formula f g (u ∷ v ∷ w ∷ us) = tt

form-formula : (f : Term → Unfolded) → ((t : Term) → IsFormula (f t)) → (u : Unfolded) → IsFormula (lift_form f u)
form-formula f h (either c d a b) = tt
form-formula f h (term t) = h t
form-formula f h (formula p n) = h _
form-formula f h (refused x) = h _

pub compare_formula : (f : Term → Term → Unfolded) → ((t u : Term) → IsFormula (f t u)) → (u v : Unfolded) → IsFormula (compare_two f u v)
compare_formula f h u v = form-formula (λ t. lift_form (f t) v) (λ t. form-formula (f t) (h t) v) u

pub equality_formula : (at : Place) (us : List Unfolded) → IsFormula (equality_form at us)
equality_formula at (formula f g ∷ us) = chain_formula (λ a b. not_of (xor_of a b)) (λ u v. tt) (formula f g ∷ us)
equality_formula at [] = tt
equality_formula at (term t ∷ us) = chain_formula (equal_two at) (compare_formula (equal_terms at) (λ t u. tt)) (term t ∷ us)
equality_formula at (refused x ∷ us) = chain_formula (equal_two at) (compare_formula (equal_terms at) (λ t u. tt)) (refused x ∷ us)
equality_formula at (either c d a b ∷ us) = chain_formula (equal_two at) (compare_formula (equal_terms at) (λ t u. tt)) (either c d a b ∷ us)

cond-formula : (b : Bool) (u v : Unfolded) → IsFormula u → IsFormula v → IsFormula (cond b u v)
cond-formula true u v h k = h
cond-formula false u v h k = k

pub distinctness_formula : (at : Place) (us : List Unfolded) → IsFormula (distinctness_form at us)
distinctness_formula at (formula f g ∷ us) = tt
distinctness_formula at [] = tt
distinctness_formula at (term t ∷ us) = cond-formula (hold_either (term t ∷ us)) (and_of (pairs (differ_two at) (term t ∷ us))) (different (pairs (equal_two at) (term t ∷ us))) tt tt
distinctness_formula at (refused x ∷ us) = cond-formula (hold_either (refused x ∷ us)) (and_of (pairs (differ_two at) (refused x ∷ us))) (different (pairs (equal_two at) (refused x ∷ us))) tt tt
distinctness_formula at (either c d a b ∷ us) = tt

-- a Real `ite`
pub picked_real : (c a b : Unfolded) → is_real_tree a ≡ true → is_real_tree b ≡ true → IsRealTree (choice_two c a b)
picked_real c (term t) b h k = k
picked_real c (either f g x y) b h k = both-real (is_real_tree x && is_real_tree y) (is_real_tree b) h k
picked_real c (formula p n) b h k = cc
picked_real c (refused x) b h k = cc

-- `ite` of formulas
pub choice_tree_formula : (us : List Unfolded) → are_formulas us ≡ true → IsFormula (choice_tree us)
choice_tree_formula (c ∷ formula f g ∷ b ∷ us) e = tt
choice_tree_formula [] e = tt
choice_tree_formula (c ∷ []) e = tt
choice_tree_formula (c ∷ a ∷ []) e = tt
choice_tree_formula (formula f g ∷ term t ∷ b ∷ us) e = cc
choice_tree_formula (formula f g ∷ refused x ∷ b ∷ us) e = cc
choice_tree_formula (formula f g ∷ either c d x y ∷ b ∷ us) e = cc
choice_tree_formula (term t ∷ a ∷ b ∷ us) e = cc
choice_tree_formula (refused x ∷ a ∷ b ∷ us) e = cc
choice_tree_formula (either c d x y ∷ a ∷ b ∷ us) e = cc

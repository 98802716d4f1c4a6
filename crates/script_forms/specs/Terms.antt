-- What an expression unfolds to, and the terms of Real expressions, built from the leaves up.
use Rattle.std.specs.Prelude.{List, [], ◌∷◌, Bool, true, false, ◌&&◌, ◌||◌, cond, nat_eq, ℤ, pos, negsuc, nat_abs}
use Rattle.dyadic.specs.Fraction.{Fraction, zero_fraction, whole, negated, sum_of, product_of, quotient_of}
use Rattle.script_model.specs.Sexp.{Place}
use Rattle.poly_graph.specs.Term.{Term, constant, variable, negate, add, multiply, square, Kind}
use Rattle.poly_graph.specs.Form.{Form}
use Rattle.dyadic.specs.Lowest.{reduced, sum_fits, product_fits}

-- each with its place; an expression that has no sort is ill formed, and no script that is accepted holds one
pub data Fault : Type 0 where
  number_too_wide divisor_not_constant zero_divisor ill_formed : Place → Fault

-- a comparison that stands in a form: that left minus right is at most, at least or equal to 0
pub record Comparison : Type 0 where
  pub at : Place
  pub left : Term
  pub right : Term
  pub kind : Kind

pub data Unfolded : Type 0 where
  -- of a Real expression
  term : Term → Unfolded
  -- of a Bool expression: the form of its truth, and that of its negation
  formula : Form Comparison → Form Comparison → Unfolded
  -- the first fault
  refused : Fault → Unfolded
  -- of a Real `ite`: the forms of its condition's truth and of its negation, and what its arms unfold to
  either : Form Comparison → Form Comparison → Unfolded → Unfolded → Unfolded

-- ---- one and the same tree

abbrev pub same_sign : ℤ → ℤ → Bool
same_sign (pos m) (pos n) = true
same_sign (negsuc m) (negsuc n) = true
same_sign _ _ = false

abbrev pub same_fraction : Fraction → Fraction → Bool
same_fraction p q = nat_eq (nat_abs p.num) (nat_abs q.num) && nat_eq p.den q.den && same_sign p.num q.num

abbrev pub same_term : Term → Term → Bool
same_term (constant p) (constant q) = same_fraction p q
same_term (variable i) (variable j) = nat_eq i j
same_term (negate t) (negate u) = same_term t u
same_term (add t t') (add u u') = same_term t u && same_term t' u'
same_term (multiply t t') (multiply u u') = same_term t u && same_term t' u'
same_term (square t) (square u) = same_term t u
same_term _ _ = false

-- ---- one step

-- a constant in lowest terms, where its step was narrow enough
abbrev pub constant_or : Place → Bool → Fraction → Unfolded
constant_or at true q = term (constant (reduced q))
constant_or at false q = refused (number_too_wide at)

abbrev pub negate_tree : Term → Term
negate_tree (constant q) = constant (negated q)
negate_tree t = negate t

abbrev pub add_tree : Place → Term → Term → Unfolded
add_tree at (constant p) (constant q) = constant_or at (sum_fits p q) (sum_of p q)
add_tree at t u = term (add t u)

-- the product of one and the same tree is its square
abbrev pub multiply_tree : Place → Term → Term → Unfolded
multiply_tree at (constant p) (constant q) = constant_or at (product_fits p q) (product_of p q)
multiply_tree at t u = term (cond (same_term t u) (square t) (multiply t u))

abbrev pub subtract_tree : Place → Term → Term → Unfolded
subtract_tree at t u = add_tree at t (negate_tree u)

abbrev pub is_nought : Fraction → Bool
is_nought q = nat_eq (nat_abs q.num) 0

abbrev pub inverse_of : Fraction → Fraction
inverse_of q = reduced (quotient_of (whole (pos 1)) q)

-- by a constant: the product with its inverse
abbrev pub divide_tree : Place → Term → Term → Unfolded
divide_tree at t (constant q) = cond (is_nought q) (refused (zero_divisor at)) (multiply_tree at t (constant (inverse_of q)))
divide_tree at t u = refused (divisor_not_constant at)

-- ---- Real `ite`: what is done with it is done with each arm, the first one first, until a fault

abbrev pub second_arm : Form Comparison → Form Comparison → Unfolded → Unfolded → Unfolded
second_arm c d a (refused x) = refused x
second_arm c d a b = either c d a b

abbrev pub arms : Form Comparison → Form Comparison → Unfolded → Unfolded → Unfolded
arms c d (refused x) b = refused x
arms c d a b = second_arm c d a b

abbrev pub lift_tree : (Term → Unfolded) → Unfolded → Unfolded
lift_tree f (term t) = f t
lift_tree f (formula p n) = formula p n
lift_tree f (refused x) = refused x
lift_tree f (either c d a b) = arms c d (lift_tree f a) (lift_tree f b)

-- ---- the steps of several arguments from left to right, until a fault

-- the arms of the first one first
abbrev pub step : (Term → Term → Unfolded) → Unfolded → Unfolded → Unfolded
step f u v = lift_tree (λ t. lift_tree (f t) v) u

abbrev pub steps : (Term → Term → Unfolded) → Unfolded → List Unfolded → Unfolded
steps f t [] = t
steps f t (u ∷ rest) = steps f (step f t u) rest

abbrev pub all_steps : (Term → Term → Unfolded) → List Unfolded → Unfolded
all_steps f [] = term (constant zero_fraction)
all_steps f (t ∷ rest) = steps f t rest

-- of one argument the opposite
abbrev pub subtraction_tree : Place → List Unfolded → Unfolded
subtraction_tree at [] = term (constant zero_fraction)
subtraction_tree at (u ∷ []) = lift_tree (λ t. term (negate_tree t)) u
subtraction_tree at (u ∷ v ∷ rest) = steps (subtract_tree at) u (v ∷ rest)

abbrev pub is_either : Unfolded → Bool
is_either (either c d a b) = true
is_either u = false

abbrev pub hold_either : List Unfolded → Bool
hold_either [] = false
hold_either (u ∷ rest) = is_either u || hold_either rest

abbrev pub behind_first : List Unfolded → List Unfolded
behind_first [] = []
behind_first (u ∷ rest) = rest

-- a Real `ite` is no divisor
abbrev pub quotient_tree : Place → List Unfolded → Unfolded
quotient_tree at us = cond (hold_either (behind_first us)) (refused (divisor_not_constant at)) (all_steps (divide_tree at) us)

-- ---- products: a factor that stands several times is a power

-- so often: one time, twice as often, or once more than twice as often
pub data Times : Type 0 where
  once : Times
  twice twice_and_once : Times → Times

abbrev pub once_more : Times → Times
once_more once = twice once
once_more (twice n) = twice_and_once n
once_more (twice_and_once n) = twice (once_more n)

-- the square of a power, or the factor times that
abbrev pub power : Times → Term → Term
power once t = t
power (twice n) t = square (power n t)
power (twice_and_once n) t = multiply t (square (power n t))

-- the factor stands once more; a constant is no factor of a power
abbrev pub repeats : Term → Term → Bool
repeats (constant q) u = false
repeats t u = same_term t u

abbrev pub stands_again : Unfolded → Unfolded → Bool
stands_again (term t) (term u) = repeats t u
stands_again v u = false

-- a factor is put behind the first one that it repeats, else at the end
abbrev pub beside : Unfolded → List Unfolded → List Unfolded
beside u [] = u ∷ []
beside u (v ∷ vs) = cond (stands_again v u) (v ∷ u ∷ vs) (v ∷ beside u vs)

-- one after the other they are put to those that were gathered
abbrev pub gathered_with : List Unfolded → List Unfolded → List Unfolded
gathered_with vs [] = vs
gathered_with vs (u ∷ rest) = gathered_with (beside u vs) rest

-- factors that are equal stand in a row, where the first of them stood
abbrev pub gathered : List Unfolded → List Unfolded
gathered us = gathered_with [] us

-- of a factor that stood so often, and those behind it
abbrev pub powers_from : Term → Times → List Unfolded → List Unfolded
powers_from t n [] = term (power n t) ∷ []
powers_from t n (term u ∷ rest) = cond (repeats t u) (powers_from t (once_more n) rest) (term (power n t) ∷ powers_from u once rest)
powers_from t n us = term (power n t) ∷ us

-- each that stands in a row with others is one with them
abbrev pub powers : List Unfolded → List Unfolded
powers (term t ∷ rest) = powers_from t once rest
powers us = us

-- where one of them is a Real `ite` they stay as they are
abbrev pub factors : List Unfolded → List Unfolded
factors us = cond (hold_either us) us (powers (gathered us))

abbrev pub product_tree : Place → List Unfolded → Unfolded
product_tree at us = all_steps (multiply_tree at) (factors us)

-- ---- the term of a comparison, made when its form is asked for

abbrev pub is_zero : Term → Bool
is_zero (constant q) = is_nought q
is_zero t = false

-- left, where right is the constant 0, else left minus right
abbrev pub comparison_tree : Comparison → Unfolded
comparison_tree c = cond (is_zero c.right) (term c.left) (subtract_tree c.at c.left c.right)

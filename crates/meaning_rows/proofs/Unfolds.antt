-- Atoms, forms and truth of texts.
use Rattle.std.proofs.Common.{◌≡◌, ℕ, List, [], ◌∷◌, true, false, pos, negsuc, Option, Some, None, refl}
use Prim.Native.String.{String}
use Rattle.dyadic.specs.Fraction.{Fraction, whole, power_below}
use Rattle.dyadic.specs.Point.{at_fraction}
use Rattle.script_model.specs.Script.{goal_value, pairs_at}
use Rattle.poly_graph.specs.Term.{Term, constant, variable, negate, add, multiply, square, le, ge, eq, Atom}
use Rattle.poly_graph.specs.Form.{Form, yes_form, no_form, atom_is, bool_is, all_form, any_form, Forms, no_forms, more_forms}
use Rattle.script_forms.specs.Terms.{Fault, divisor_not_constant, zero_divisor, number_too_wide}
use Rattle.script_forms.specs.Atoms.{goal_atom, goal_term, script_atoms, script_form, unfolding_fault}
use Rattle.meaning_rows.proofs.Asked.{at, of_text, of_whole}

abbrev atoms : String → List Atom
atoms text = of_text script_atoms [] text

abbrev form : String → Form ℕ
form text = of_text script_form no_form text

abbrev fault : String → Option Fault
fault text = of_text unfolding_fault None text

-- a whole number, and the same below 0
abbrev number : ℕ → Term
number n = constant (whole (pos n))

abbrev minus_one : Term
minus_one = constant (whole (negsuc 0))

abbrev x : Term
x = variable 0

abbrev of_all : List (Form ℕ) → Form ℕ
of_all fs = all_form (forms fs)
  where
    forms : List (Form ℕ) → Forms ℕ
    forms [] = no_forms
    forms (f ∷ rest) = more_forms f (forms rest)

abbrev of_any : List (Form ℕ) → Form ℕ
of_any fs = any_form (forms fs)
  where
    forms : List (Form ℕ) → Forms ℕ
    forms [] = no_forms
    forms (f ∷ rest) = more_forms f (forms rest)

-- the bounds 0 <= x <= 1, as atoms
abbrev bounded : List Atom → List Atom
bounded rest = (add (number 0) (negate x), le) ∷ (add x minus_one, le) ∷ rest

-- a square that is to be -1
square_atoms : atoms "(declare-const x Real)\n(assert (<= 0 x 1))\n(assert (= (* x x) (- 1)))" ≡ bounded ((add (square x) (number 1), eq) ∷ [])
unfolding Rattle.dyadic.specs.Fraction.negated Rattle.dyadic.specs.Fraction.sum_of Rattle.dyadic.specs.Fraction.product_of Rattle.dyadic.specs.Fraction.quotient_of Rattle.dyadic.specs.Fraction.at_most
square_atoms = refl

-- powers: the fourth is the square of a square; equal factors stand together where the first of them stands, and constants where they stood
fourth_atoms : atoms "(declare-const x Real)\n(assert (<= 0 x 1))\n(assert (= (* x x x x) (- 1)))" ≡ bounded ((add (square (square x)) (number 1), eq) ∷ [])
unfolding Rattle.dyadic.specs.Fraction.negated Rattle.dyadic.specs.Fraction.sum_of Rattle.dyadic.specs.Fraction.product_of Rattle.dyadic.specs.Fraction.quotient_of Rattle.dyadic.specs.Fraction.at_most
fourth_atoms = refl

fifth_atoms : atoms "(declare-const x Real)\n(assert (<= 0 x 1))\n(assert (= (* 2 3 x x x x 2 2 x) (- 1)))" ≡
    bounded ((add (multiply (multiply (multiply (number 6) (multiply x (square (square x)))) (number 2)) (number 2)) (number 1), eq) ∷ [])
unfolding Rattle.dyadic.specs.Fraction.negated Rattle.dyadic.specs.Fraction.sum_of Rattle.dyadic.specs.Fraction.product_of Rattle.dyadic.specs.Fraction.quotient_of Rattle.dyadic.specs.Fraction.at_most
fifth_atoms = refl

apart_atoms : atoms "(declare-const x Real)\n(assert (<= 0 x 1))\n(assert (= (* x (+ x 2) 3 x (+ x 2) (* x x)) (- 1)))" ≡
    bounded ((add (multiply (multiply (multiply (square x) (square (add x (number 2)))) (number 3)) (square x)) (number 1), eq) ∷ [])
unfolding Rattle.dyadic.specs.Fraction.negated Rattle.dyadic.specs.Fraction.sum_of Rattle.dyadic.specs.Fraction.product_of Rattle.dyadic.specs.Fraction.quotient_of Rattle.dyadic.specs.Fraction.at_most
apart_atoms = refl

sixth_atoms : atoms "(declare-const x Real)\n(assert (<= 0 x 1))\n(assert (= (* (- x) (- x) (- x) (- x) (- x) (- x)) (- 1)))" ≡
    bounded ((add (square (multiply (negate x) (square (negate x)))) (number 1), eq) ∷ [])
unfolding Rattle.dyadic.specs.Fraction.negated Rattle.dyadic.specs.Fraction.sum_of Rattle.dyadic.specs.Fraction.product_of Rattle.dyadic.specs.Fraction.quotient_of Rattle.dyadic.specs.Fraction.at_most
sixth_atoms = refl

square_form : form "(declare-const x Real)\n(assert (<= 0 x 1))\n(assert (= (* x x) (- 1)))" ≡ of_all (of_all (atom_is 0 ∷ atom_is 1 ∷ []) ∷ atom_is 2 ∷ [])
unfolding Rattle.dyadic.specs.Fraction.negated Rattle.dyadic.specs.Fraction.sum_of Rattle.dyadic.specs.Fraction.product_of Rattle.dyadic.specs.Fraction.quotient_of Rattle.dyadic.specs.Fraction.at_most
square_form = refl

square_at_half : of_whole (pairs_at (power_below 20) (at_fraction (record { num = pos 1; den = 2 }) ∷ [])) [] "(declare-const x Real)\n(assert (<= 0 x 1))\n(assert (= (* x x) (- 1)))\n(check-sat)\n" ≡
    (record { pos = true; neg = false } ∷ record { pos = false; neg = true } ∷ [])
unfolding Rattle.dyadic.specs.Fraction.negated Rattle.dyadic.specs.Fraction.sum_of Rattle.dyadic.specs.Fraction.product_of Rattle.dyadic.specs.Fraction.quotient_of Rattle.dyadic.specs.Fraction.at_most
square_at_half = refl

-- a strict comparison counts as closed, and of 0 the term is the other side
strict_is_closed : atoms "(declare-const x Real)\n(assert (<= 0 x 1))\n(assert (< x 0))" ≡ bounded ((x, le) ∷ [])
unfolding Rattle.dyadic.specs.Fraction.negated Rattle.dyadic.specs.Fraction.sum_of Rattle.dyadic.specs.Fraction.product_of Rattle.dyadic.specs.Fraction.quotient_of Rattle.dyadic.specs.Fraction.at_most
strict_is_closed = refl

-- that Reals differ is true and has no atom
different_atoms : atoms "(declare-const x Real)\n(assert (<= 0 x 1))\n(assert (distinct x x))" ≡ bounded []
unfolding Rattle.dyadic.specs.Fraction.negated Rattle.dyadic.specs.Fraction.sum_of Rattle.dyadic.specs.Fraction.product_of Rattle.dyadic.specs.Fraction.quotient_of Rattle.dyadic.specs.Fraction.at_most
different_atoms = refl

different_form : form "(declare-const x Real)\n(assert (<= 0 x 1))\n(assert (distinct x x))" ≡ of_all (of_all (atom_is 0 ∷ atom_is 1 ∷ []) ∷ yes_form ∷ [])
unfolding Rattle.dyadic.specs.Fraction.negated Rattle.dyadic.specs.Fraction.sum_of Rattle.dyadic.specs.Fraction.product_of Rattle.dyadic.specs.Fraction.quotient_of Rattle.dyadic.specs.Fraction.at_most
different_form = refl

different_at_half : of_text (pairs_at (power_below 10) (at_fraction (record { num = pos 1; den = 2 }) ∷ [])) [] "(declare-const x Real)\n(assert (<= 0 x 1))\n(assert (distinct x x))" ≡
    (record { pos = true; neg = false } ∷ record { pos = true; neg = true } ∷ [])
unfolding Rattle.dyadic.specs.Fraction.negated Rattle.dyadic.specs.Fraction.sum_of Rattle.dyadic.specs.Fraction.product_of Rattle.dyadic.specs.Fraction.quotient_of Rattle.dyadic.specs.Fraction.at_most
different_at_half = refl

third_atoms : atoms "(declare-const x Real)\n(assert (= x (/ 1 3)))" ≡ ((add x (constant (record { num = negsuc 0; den = 3 })), eq) ∷ [])
unfolding Rattle.dyadic.specs.Fraction.negated Rattle.dyadic.specs.Fraction.sum_of Rattle.dyadic.specs.Fraction.product_of Rattle.dyadic.specs.Fraction.quotient_of Rattle.dyadic.specs.Fraction.at_most
third_atoms = refl

false_form : form "(assert false)" ≡ of_all (no_form ∷ [])
unfolding Rattle.dyadic.specs.Fraction.negated Rattle.dyadic.specs.Fraction.sum_of Rattle.dyadic.specs.Fraction.product_of Rattle.dyadic.specs.Fraction.quotient_of Rattle.dyadic.specs.Fraction.at_most
false_form = refl

no_assertion : of_whole script_form no_form "(check-sat)" ≡ of_all []
unfolding Rattle.dyadic.specs.Fraction.negated Rattle.dyadic.specs.Fraction.sum_of Rattle.dyadic.specs.Fraction.product_of Rattle.dyadic.specs.Fraction.quotient_of Rattle.dyadic.specs.Fraction.at_most
no_assertion = refl

-- ---- the goal: it asserts nothing, and its term is that of an atom

goal_atoms : atoms "(declare-const x Real)\n(assert (<= 0 x 1))\n(minimize (* x x))" ≡ bounded ((square x, le) ∷ [])
unfolding Rattle.dyadic.specs.Fraction.negated Rattle.dyadic.specs.Fraction.sum_of Rattle.dyadic.specs.Fraction.product_of Rattle.dyadic.specs.Fraction.quotient_of Rattle.dyadic.specs.Fraction.at_most
goal_atoms = refl

goal_form : form "(declare-const x Real)\n(assert (<= 0 x 1))\n(minimize (* x x))" ≡ of_all (of_all (atom_is 0 ∷ atom_is 1 ∷ []) ∷ of_any (atom_is 2 ∷ yes_form ∷ []) ∷ [])
unfolding Rattle.dyadic.specs.Fraction.negated Rattle.dyadic.specs.Fraction.sum_of Rattle.dyadic.specs.Fraction.product_of Rattle.dyadic.specs.Fraction.quotient_of Rattle.dyadic.specs.Fraction.at_most
goal_form = refl

goal_is_square : of_text goal_term None "(declare-const x Real)\n(assert (<= 0 x 1))\n(minimize (* x x))" ≡ Some (square x)
unfolding Rattle.dyadic.specs.Fraction.negated Rattle.dyadic.specs.Fraction.sum_of Rattle.dyadic.specs.Fraction.product_of Rattle.dyadic.specs.Fraction.quotient_of Rattle.dyadic.specs.Fraction.at_most
goal_is_square = refl

goal_is_third : of_text goal_atom None "(declare-const x Real)\n(assert (<= 0 x 1))\n(minimize (* x x))" ≡ Some 2
unfolding Rattle.dyadic.specs.Fraction.negated Rattle.dyadic.specs.Fraction.sum_of Rattle.dyadic.specs.Fraction.product_of Rattle.dyadic.specs.Fraction.quotient_of Rattle.dyadic.specs.Fraction.at_most
goal_is_third = refl

value_at_half : of_text (goal_value (at_fraction (record { num = pos 1; den = 2 }) ∷ [])) None "(declare-const x Real)\n(assert (<= 0 x 1))\n(minimize (* x x))" ≡ Some (record { num = pos 1; den = 4 })
unfolding Rattle.dyadic.specs.Fraction.negated Rattle.dyadic.specs.Fraction.sum_of Rattle.dyadic.specs.Fraction.product_of Rattle.dyadic.specs.Fraction.quotient_of Rattle.dyadic.specs.Fraction.at_most
value_at_half = refl

goal_at_half : of_text (pairs_at (power_below 20) (at_fraction (record { num = pos 1; den = 2 }) ∷ [])) [] "(declare-const x Real)\n(assert (<= 0 x 1))\n(minimize (* x x))" ≡
    (record { pos = true; neg = false } ∷ record { pos = true; neg = false } ∷ [])
unfolding Rattle.dyadic.specs.Fraction.negated Rattle.dyadic.specs.Fraction.sum_of Rattle.dyadic.specs.Fraction.product_of Rattle.dyadic.specs.Fraction.quotient_of Rattle.dyadic.specs.Fraction.at_most
goal_at_half = refl

-- a goal that is popped before the check is none
popped_goal : of_text goal_term None "(declare-const x Real)(push 1)(minimize x)(pop 1)" ≡ None
popped_goal = refl

-- a choice has no term of its own
chosen_goal : of_text goal_term None "(declare-const p Bool)(minimize (ite p 1 2))" ≡ None
unfolding Rattle.dyadic.specs.Fraction.negated Rattle.dyadic.specs.Fraction.sum_of Rattle.dyadic.specs.Fraction.product_of Rattle.dyadic.specs.Fraction.quotient_of Rattle.dyadic.specs.Fraction.at_most
chosen_goal = refl

-- a choice, where both arms miss
choice_form : form "(declare-const b Bool)\n(declare-const x Real)\n(assert (<= 0 x 1))\n(assert (ite b (> x 2) (< x (- 1))))" ≡ of_all (of_all (atom_is 0 ∷ atom_is 1 ∷ []) ∷
    of_any (of_all (bool_is 0 true ∷ atom_is 2 ∷ []) ∷ of_all (bool_is 0 false ∷ atom_is 3 ∷ []) ∷ []) ∷ [])
unfolding Rattle.dyadic.specs.Fraction.negated Rattle.dyadic.specs.Fraction.sum_of Rattle.dyadic.specs.Fraction.product_of Rattle.dyadic.specs.Fraction.quotient_of Rattle.dyadic.specs.Fraction.at_most
choice_form = refl

choice_atoms : atoms "(declare-const b Bool)\n(declare-const x Real)\n(assert (<= 0 x 1))\n(assert (ite b (> x 2) (< x (- 1))))" ≡ ((add (number 0) (negate (variable 1)), le) ∷ (add (variable 1) minus_one, le) ∷
    (add (variable 1) (constant (whole (negsuc 1))), ge) ∷ (add (variable 1) (number 1), le) ∷ [])
unfolding Rattle.dyadic.specs.Fraction.negated Rattle.dyadic.specs.Fraction.sum_of Rattle.dyadic.specs.Fraction.product_of Rattle.dyadic.specs.Fraction.quotient_of Rattle.dyadic.specs.Fraction.at_most
choice_atoms = refl

circle_atoms : atoms "(declare-const x Real)\n(declare-const y Real)\n(assert (<= 0 x 2))\n(assert (<= 0 y 2))\n(assert (= (+ (* x x) (* y y)) 1))\n(assert (= (* x y) 1))" ≡
    ((add (number 0) (negate x), le) ∷ (add x (constant (whole (negsuc 1))), le) ∷ (add (number 0) (negate (variable 1)), le) ∷ (add (variable 1) (constant (whole (negsuc 1))), le) ∷
    (add (add (square x) (square (variable 1))) minus_one, eq) ∷ (add (multiply x (variable 1)) minus_one, eq) ∷ [])
unfolding Rattle.dyadic.specs.Fraction.negated Rattle.dyadic.specs.Fraction.sum_of Rattle.dyadic.specs.Fraction.product_of Rattle.dyadic.specs.Fraction.quotient_of Rattle.dyadic.specs.Fraction.at_most
circle_atoms = refl

-- bindings, annotations of the text and reserved words: the square root of 9/4
let_at : of_whole (pairs_at (power_below 10) (at_fraction (record { num = pos 3; den = 2 }) ∷ [])) [] "(set-logic QF_NRA)\n(set-info :source |a tool|)\n(set-info :smt-lib-version 2.6)\n(set-info :status sat)\n(declare-fun a () Real)\n(assert (let ((s (* a a))) (and (<= 0 a 2) (= s 2.25))))\n(check-sat)\n(exit)\n((" ≡
    (record { pos = true; neg = true } ∷ [])
unfolding Rattle.dyadic.specs.Fraction.negated Rattle.dyadic.specs.Fraction.sum_of Rattle.dyadic.specs.Fraction.product_of Rattle.dyadic.specs.Fraction.quotient_of Rattle.dyadic.specs.Fraction.at_most
let_at = refl

let_atoms : of_whole script_atoms [] "(set-logic QF_NRA)\n(set-info :source |a tool|)\n(set-info :smt-lib-version 2.6)\n(set-info :status sat)\n(declare-fun a () Real)\n(assert (let ((s (* a a))) (and (<= 0 a 2) (= s 2.25))))\n(check-sat)\n(exit)\n((" ≡ ((add (number 0) (negate x), le) ∷ (add x (constant (whole (negsuc 1))), le) ∷ (add (square x) (constant (record { num = negsuc 8; den = 4 })), eq) ∷ [])
unfolding Rattle.dyadic.specs.Fraction.negated Rattle.dyadic.specs.Fraction.sum_of Rattle.dyadic.specs.Fraction.product_of Rattle.dyadic.specs.Fraction.quotient_of Rattle.dyadic.specs.Fraction.at_most
let_atoms = refl

-- ---- faults of unfolding

divisor : fault "(declare-const x Real)\n(declare-const y Real)\n(assert (= (/ x y) 1))" ≡ Some (divisor_not_constant (at 3 12))
unfolding Rattle.dyadic.specs.Fraction.negated Rattle.dyadic.specs.Fraction.sum_of Rattle.dyadic.specs.Fraction.product_of Rattle.dyadic.specs.Fraction.quotient_of Rattle.dyadic.specs.Fraction.at_most
divisor = refl

divided_by_zero : fault "(declare-const x Real)\n(declare-const y Real)\n(assert (= (/ x (- 1 1)) 1))" ≡ Some (zero_divisor (at 3 12))
unfolding Rattle.dyadic.specs.Fraction.negated Rattle.dyadic.specs.Fraction.sum_of Rattle.dyadic.specs.Fraction.product_of Rattle.dyadic.specs.Fraction.quotient_of Rattle.dyadic.specs.Fraction.at_most
divided_by_zero = refl

-- 0 times a Real constant is no constant
divided_by_product : fault "(declare-const x Real)\n(assert (= (/ 1 (* 0 x)) 1))" ≡ Some (divisor_not_constant (at 2 12))
unfolding Rattle.dyadic.specs.Fraction.negated Rattle.dyadic.specs.Fraction.sum_of Rattle.dyadic.specs.Fraction.product_of Rattle.dyadic.specs.Fraction.quotient_of Rattle.dyadic.specs.Fraction.at_most
divided_by_product = refl

-- a body that is never used is not refused for its division, one that is used is refused where it stands
unused_body : fault "(declare-const x Real)\n(define-fun f () Real (/ x 0))\n(assert (< x 1))" ≡ None
unfolding Rattle.dyadic.specs.Fraction.negated Rattle.dyadic.specs.Fraction.sum_of Rattle.dyadic.specs.Fraction.product_of Rattle.dyadic.specs.Fraction.quotient_of Rattle.dyadic.specs.Fraction.at_most
unused_body = refl

used_body : fault "(declare-const x Real)\n(define-fun f () Real (/ x 0))\n(assert (< x f))" ≡ Some (zero_divisor (at 2 23))
unfolding Rattle.dyadic.specs.Fraction.negated Rattle.dyadic.specs.Fraction.sum_of Rattle.dyadic.specs.Fraction.product_of Rattle.dyadic.specs.Fraction.quotient_of Rattle.dyadic.specs.Fraction.at_most
used_body = refl

-- a binding is unfolded, used or not
unused_binding : fault "(declare-const x Real)\n(assert (let ((y (/ x 0))) (< x 1)))" ≡ Some (zero_divisor (at 2 18))
unfolding Rattle.dyadic.specs.Fraction.negated Rattle.dyadic.specs.Fraction.sum_of Rattle.dyadic.specs.Fraction.product_of Rattle.dyadic.specs.Fraction.quotient_of Rattle.dyadic.specs.Fraction.at_most
unused_binding = refl

wide_sum : fault "(declare-const x Real)\n(assert (< x (+ 1000000000000000000000000000000000000 1)))" ≡ Some (number_too_wide (at 2 14))
unfolding Rattle.dyadic.specs.Fraction.negated Rattle.dyadic.specs.Fraction.sum_of Rattle.dyadic.specs.Fraction.product_of Rattle.dyadic.specs.Fraction.quotient_of Rattle.dyadic.specs.Fraction.at_most
wide_sum = refl

-- the term of a comparison is made where its form is asked for, and then its fault stands at the comparison
wide_comparison : fault "(assert (< 1000000000000000000000000000000000000 (- 1)))" ≡ Some (number_too_wide (at 1 9))
unfolding Rattle.dyadic.specs.Fraction.negated Rattle.dyadic.specs.Fraction.sum_of Rattle.dyadic.specs.Fraction.product_of Rattle.dyadic.specs.Fraction.quotient_of Rattle.dyadic.specs.Fraction.at_most
wide_comparison = refl

wide_different : fault "(assert (distinct 1000000000000000000000000000000000000 (- 1)))" ≡ None
unfolding Rattle.dyadic.specs.Fraction.negated Rattle.dyadic.specs.Fraction.sum_of Rattle.dyadic.specs.Fraction.product_of Rattle.dyadic.specs.Fraction.quotient_of Rattle.dyadic.specs.Fraction.at_most
wide_different = refl

wide_not_different : fault "(assert (not (distinct 1000000000000000000000000000000000000 (- 1))))" ≡ Some (number_too_wide (at 1 14))
unfolding Rattle.dyadic.specs.Fraction.negated Rattle.dyadic.specs.Fraction.sum_of Rattle.dyadic.specs.Fraction.product_of Rattle.dyadic.specs.Fraction.quotient_of Rattle.dyadic.specs.Fraction.at_most
wide_not_different = refl

wide_equal : fault "(assert (= 1000000000000000000000000000000000000 (- 1)))" ≡ Some (number_too_wide (at 1 9))
unfolding Rattle.dyadic.specs.Fraction.negated Rattle.dyadic.specs.Fraction.sum_of Rattle.dyadic.specs.Fraction.product_of Rattle.dyadic.specs.Fraction.quotient_of Rattle.dyadic.specs.Fraction.at_most
wide_equal = refl

wide_not_equal : fault "(assert (not (= 1000000000000000000000000000000000000 (- 1))))" ≡ None
unfolding Rattle.dyadic.specs.Fraction.negated Rattle.dyadic.specs.Fraction.sum_of Rattle.dyadic.specs.Fraction.product_of Rattle.dyadic.specs.Fraction.quotient_of Rattle.dyadic.specs.Fraction.at_most
wide_not_equal = refl

wide_unused : fault "(assert (let ((c (< 1000000000000000000000000000000000000 (- 1)))) true))" ≡ None
unfolding Rattle.dyadic.specs.Fraction.negated Rattle.dyadic.specs.Fraction.sum_of Rattle.dyadic.specs.Fraction.product_of Rattle.dyadic.specs.Fraction.quotient_of Rattle.dyadic.specs.Fraction.at_most
wide_unused = refl

-- an assertion is unfolded whole before its form is made
unfolded_first : fault "(declare-const x Real)\n(assert (or (< 1000000000000000000000000000000000000 (- 1)) (< (/ 1 x) 1)))" ≡ Some (divisor_not_constant (at 2 64))
unfolding Rattle.dyadic.specs.Fraction.negated Rattle.dyadic.specs.Fraction.sum_of Rattle.dyadic.specs.Fraction.product_of Rattle.dyadic.specs.Fraction.quotient_of Rattle.dyadic.specs.Fraction.at_most
unfolded_first = refl

assertions_in_order : fault "(declare-const x Real)\n(assert (< 1000000000000000000000000000000000000 (- 1)))\n(assert (< (/ 1 x) 1))" ≡ Some (number_too_wide (at 2 9))
unfolding Rattle.dyadic.specs.Fraction.negated Rattle.dyadic.specs.Fraction.sum_of Rattle.dyadic.specs.Fraction.product_of Rattle.dyadic.specs.Fraction.quotient_of Rattle.dyadic.specs.Fraction.at_most
assertions_in_order = refl

form_order : fault "(assert (=> (< 1 1000000000000000000000000000000000000) (< 1000000000000000000000000000000000000 (- 1))))" ≡ Some (number_too_wide (at 1 57))
unfolding Rattle.dyadic.specs.Fraction.negated Rattle.dyadic.specs.Fraction.sum_of Rattle.dyadic.specs.Fraction.product_of Rattle.dyadic.specs.Fraction.quotient_of Rattle.dyadic.specs.Fraction.at_most
form_order = refl

-- ---- forms with one part, pairs, chains

-- where it is loosened, that two Reals are not equal is true
equal_negated : form "(declare-const x Real)\n(assert (not (= x 1)))" ≡ of_all (yes_form ∷ [])
unfolding Rattle.dyadic.specs.Fraction.negated Rattle.dyadic.specs.Fraction.sum_of Rattle.dyadic.specs.Fraction.product_of Rattle.dyadic.specs.Fraction.quotient_of Rattle.dyadic.specs.Fraction.at_most
equal_negated = refl

constant_zero : atoms "(declare-const x Real)\n(assert (< x (- 1 1)))" ≡ ((x, le) ∷ [])
unfolding Rattle.dyadic.specs.Fraction.negated Rattle.dyadic.specs.Fraction.sum_of Rattle.dyadic.specs.Fraction.product_of Rattle.dyadic.specs.Fraction.quotient_of Rattle.dyadic.specs.Fraction.at_most
constant_zero = refl

and_of_one : form "(declare-const x Real)\n(assert (and (< x 1)))" ≡ of_all (of_all (atom_is 0 ∷ []) ∷ [])
unfolding Rattle.dyadic.specs.Fraction.negated Rattle.dyadic.specs.Fraction.sum_of Rattle.dyadic.specs.Fraction.product_of Rattle.dyadic.specs.Fraction.quotient_of Rattle.dyadic.specs.Fraction.at_most
and_of_one = refl

or_of_one : form "(declare-const x Real)\n(assert (or (< x 1)))" ≡ of_all (of_any (atom_is 0 ∷ []) ∷ [])
unfolding Rattle.dyadic.specs.Fraction.negated Rattle.dyadic.specs.Fraction.sum_of Rattle.dyadic.specs.Fraction.product_of Rattle.dyadic.specs.Fraction.quotient_of Rattle.dyadic.specs.Fraction.at_most
or_of_one = refl

chain_of_two : form "(declare-const x Real)\n(assert (< x 1))" ≡ of_all (atom_is 0 ∷ [])
unfolding Rattle.dyadic.specs.Fraction.negated Rattle.dyadic.specs.Fraction.sum_of Rattle.dyadic.specs.Fraction.product_of Rattle.dyadic.specs.Fraction.quotient_of Rattle.dyadic.specs.Fraction.at_most
chain_of_two = refl

chain_negated : form "(declare-const x Real)\n(assert (not (< 0 x 1)))" ≡ of_all (of_any (atom_is 0 ∷ atom_is 1 ∷ []) ∷ [])
unfolding Rattle.dyadic.specs.Fraction.negated Rattle.dyadic.specs.Fraction.sum_of Rattle.dyadic.specs.Fraction.product_of Rattle.dyadic.specs.Fraction.quotient_of Rattle.dyadic.specs.Fraction.at_most
chain_negated = refl

chain_negated_atoms : atoms "(declare-const x Real)\n(assert (not (< 0 x 1)))" ≡ ((add (number 0) (negate x), ge) ∷ (add x minus_one, ge) ∷ [])
unfolding Rattle.dyadic.specs.Fraction.negated Rattle.dyadic.specs.Fraction.sum_of Rattle.dyadic.specs.Fraction.product_of Rattle.dyadic.specs.Fraction.quotient_of Rattle.dyadic.specs.Fraction.at_most
chain_negated_atoms = refl

different_negated : form "(declare-const x Real)\n(assert (not (distinct x 1)))" ≡ of_all (of_any (atom_is 0 ∷ []) ∷ [])
unfolding Rattle.dyadic.specs.Fraction.negated Rattle.dyadic.specs.Fraction.sum_of Rattle.dyadic.specs.Fraction.product_of Rattle.dyadic.specs.Fraction.quotient_of Rattle.dyadic.specs.Fraction.at_most
different_negated = refl

bools_differ : form "(declare-const a Bool)\n(declare-const b Bool)\n(assert (distinct a b))" ≡ of_all (of_all (of_any (of_all (bool_is 0 true ∷ bool_is 1 false ∷ []) ∷ of_all (bool_is 0 false ∷ bool_is 1 true ∷ []) ∷ []) ∷ []) ∷ [])
unfolding Rattle.dyadic.specs.Fraction.negated Rattle.dyadic.specs.Fraction.sum_of Rattle.dyadic.specs.Fraction.product_of Rattle.dyadic.specs.Fraction.quotient_of Rattle.dyadic.specs.Fraction.at_most
bools_differ = refl

bools_do_not_differ : form "(declare-const a Bool)\n(declare-const b Bool)\n(assert (not (distinct a b)))" ≡ of_all (of_any (of_any (of_all (bool_is 0 true ∷ bool_is 1 true ∷ []) ∷ of_all (bool_is 0 false ∷ bool_is 1 false ∷ []) ∷ []) ∷ []) ∷ [])
unfolding Rattle.dyadic.specs.Fraction.negated Rattle.dyadic.specs.Fraction.sum_of Rattle.dyadic.specs.Fraction.product_of Rattle.dyadic.specs.Fraction.quotient_of Rattle.dyadic.specs.Fraction.at_most
bools_do_not_differ = refl

bools_equal : form "(declare-const a Bool)\n(declare-const b Bool)\n(assert (= a b))" ≡ of_all (of_any (of_all (bool_is 0 true ∷ bool_is 1 true ∷ []) ∷ of_all (bool_is 0 false ∷ bool_is 1 false ∷ []) ∷ []) ∷ [])
unfolding Rattle.dyadic.specs.Fraction.negated Rattle.dyadic.specs.Fraction.sum_of Rattle.dyadic.specs.Fraction.product_of Rattle.dyadic.specs.Fraction.quotient_of Rattle.dyadic.specs.Fraction.at_most
bools_equal = refl

implication_from_the_right : form "(declare-const a Bool)\n(declare-const b Bool)\n(assert (=> a b a))" ≡ of_all (of_any (bool_is 0 false ∷ of_any (bool_is 1 false ∷ bool_is 0 true ∷ []) ∷ []) ∷ [])
unfolding Rattle.dyadic.specs.Fraction.negated Rattle.dyadic.specs.Fraction.sum_of Rattle.dyadic.specs.Fraction.product_of Rattle.dyadic.specs.Fraction.quotient_of Rattle.dyadic.specs.Fraction.at_most
implication_from_the_right = refl

same_atom_once : form "(declare-const x Real)\n(assert (< x 1))\n(assert (or (> x 1) (<= x 1)))" ≡ of_all (atom_is 0 ∷ of_any (atom_is 1 ∷ atom_is 0 ∷ []) ∷ [])
unfolding Rattle.dyadic.specs.Fraction.negated Rattle.dyadic.specs.Fraction.sum_of Rattle.dyadic.specs.Fraction.product_of Rattle.dyadic.specs.Fraction.quotient_of Rattle.dyadic.specs.Fraction.at_most
same_atom_once = refl

definition_unfolds : atoms "(declare-const x Real)\n(define-fun f ((y Real)) Real (+ y 1))\n(assert (! (distinct (f x) (* x 2)) :named n))\n(assert (= (f x) (f x)))" ≡
    ((add (add x (number 1)) (negate (add x (number 1))), eq) ∷ [])
unfolding Rattle.dyadic.specs.Fraction.negated Rattle.dyadic.specs.Fraction.sum_of Rattle.dyadic.specs.Fraction.product_of Rattle.dyadic.specs.Fraction.quotient_of Rattle.dyadic.specs.Fraction.at_most
definition_unfolds = refl

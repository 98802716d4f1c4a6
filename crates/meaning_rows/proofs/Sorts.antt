-- First faults of names and sorts, with their places.
use Rattle.std.proofs.Common.{◌≡◌, codes, Some, None, refl}
use Prim.Native.String.{String}
use Rattle.sort_check.specs.Levels.{course_fault_with_roots}
use Rattle.sort_check.specs.Sorts.{unknown_symbol, redeclared, sort_mismatch, left_out_form, too_many_axes, Finding, sort_fault}
use Rattle.meaning_rows.proofs.Asked.{at, of_steps, of_text}

abbrev fault : String → Finding
fault text = of_text sort_fault None text

-- ---- where a fault stands

unknown_head : fault "(declare-const x Real)\n(assert (< (sin x) (^ x 2)))" ≡ Some (at 2 12, unknown_symbol (codes "sin"))
unknown_head = refl

mixed : fault "(declare-const x Real)\n(declare-const b Bool)\n(assert (and b (= x b)))" ≡ Some (at 3 16, sort_mismatch)
mixed = refl

quantified : fault "(declare-const x Real)\n(assert (exists ((y Real)) (< x y)))" ≡ Some (at 2 9, left_out_form)
quantified = refl

root_of_two : fault "(assert (= (sqrt (foo)) 2))" ≡ Some (at 1 12, left_out_form)
root_of_two = refl

bare_root : fault "(assert (= sqrt 2))" ≡ Some (at 1 12, left_out_form)
bare_root = refl

declared_root : fault "(declare-const sqrt Real)\n(assert (= sqrt 2))" ≡ None
declared_root = refl

real_claim : fault "(declare-const x Real)\n(assert x)" ≡ Some (at 2 9, sort_mismatch)
real_claim = refl

real_goal : fault "(declare-const x Real)\n(minimize (* x x))" ≡ None
real_goal = refl

-- a choice between Reals is Real
chosen_goal : fault "(declare-const p Bool)\n(minimize (ite p 1 2))" ≡ None
chosen_goal = refl

bool_goal : fault "(declare-const p Bool)\n(minimize p)" ≡ Some (at 2 11, sort_mismatch)
bool_goal = refl

unknown_goal : fault "(minimize (+ 1 x))" ≡ Some (at 1 16, unknown_symbol (codes "x"))
unknown_goal = refl

-- ---- names that are known already

-- each binding is its name and then its expression, from left to right
first_expression : fault "(assert (let ((x (foo)) (x 1)) true))" ≡ Some (at 1 18, unknown_symbol (codes "foo"))
first_expression = refl

second_name : fault "(assert (let ((x 1) (x (foo))) true))" ≡ Some (at 1 22, redeclared (codes "x"))
second_name = refl

theory_name : fault "(assert (let ((and true)) true))" ≡ Some (at 1 16, redeclared (codes "and"))
theory_name = refl

parameter_twice : fault "(define-fun f ((y Real) (y Real)) Real y)" ≡ Some (at 1 26, redeclared (codes "y"))
parameter_twice = refl

top_twice : fault "(declare-const x Real)\n(declare-const |x| Bool)" ≡ Some (at 2 1, redeclared (codes "x"))
top_twice = refl

-- the name of a definition comes before its parameters and its body
definition_twice : fault "(declare-const x Real)\n(define-fun x ((y Real) (y Real)) Real (foo))" ≡ Some (at 2 1, redeclared (codes "x"))
definition_twice = refl

hides_the_top : fault "(declare-const x Real)\n(define-fun f ((y Real)) Real (+ y x))\n(assert (let ((s (f x)) (x true)) (and x (< s 1))))" ≡ None
hides_the_top = refl

-- ---- forms and numbers of arguments

-- the arguments of a known name come before its number of arguments
constant_called : fault "(declare-const x Real)\n(assert (x (foo)))" ≡ Some (at 2 12, unknown_symbol (codes "foo"))
constant_called = refl

constant_called_well : fault "(declare-const x Real)\n(assert (x 1))" ≡ Some (at 2 9, sort_mismatch)
constant_called_well = refl

sum_of_unknown : fault "(assert (< (+ (foo)) 1))" ≡ Some (at 1 15, unknown_symbol (codes "foo"))
sum_of_unknown = refl

negation_of_two : fault "(assert (not (foo) 1))" ≡ Some (at 1 14, unknown_symbol (codes "foo"))
negation_of_two = refl

-- but without arguments it has no form
constant_without : fault "(declare-const b Bool)\n(assert (b))" ≡ Some (at 2 9, sort_mismatch)
constant_without = refl

truth_without : fault "(assert (true))" ≡ Some (at 1 9, sort_mismatch)
truth_without = refl

unknown_without : fault "(assert (foo))" ≡ Some (at 1 9, unknown_symbol (codes "foo"))
unknown_without = refl

wrong_call : fault "(declare-const x Real)\n(define-fun f ((y Real)) Real y)\n(assert (< (f x x) 1))" ≡ Some (at 3 12, sort_mismatch)
wrong_call = refl

no_arguments : fault "(define-fun f ((y Real)) Real y)\n(assert (< 1 f))" ≡ Some (at 2 14, sort_mismatch)
no_arguments = refl

wrong_body : fault "(define-fun f ((y Real)) Bool\n y)" ≡ Some (at 2 2, sort_mismatch)
wrong_body = refl

empty_let : fault "(assert (let () (foo)))" ≡ Some (at 1 9, sort_mismatch)
empty_let = refl

-- ---- a choice

real_arms : fault "(declare-const x Real)\n(assert (= x (ite true 2 3)))" ≡ None
real_arms = refl

mixed_arms : fault "(declare-const x Real)\n(assert (= x (ite true 2 false)))" ≡ Some (at 2 14, sort_mismatch)
mixed_arms = refl

real_condition : fault "(declare-const x Real)\n(assert (= x (ite 1 2 3)))" ≡ Some (at 2 14, sort_mismatch)
real_condition = refl

-- ---- annotations and quoted names

annotated : fault "(assert (! true))\n(assert (! true 5 (foo)))" ≡ None
annotated = refl

no_term : fault "(assert (!))" ≡ Some (at 1 9, sort_mismatch)
no_term = refl

quoted_words : fault "(|declare-const| |x y| |Real|)\n(|assert| (|and| |true| (|<=| 0 |x y|)))" ≡ None
quoted_words = refl

-- a quoted word that would be reserved is a name
quoted_let : fault "(declare-const |let| Bool)\n(assert |let|)" ≡ None
quoted_let = refl

-- ---- where `sqrt` is a function of one Real

-- a text that is not read has another fault
abbrev fault_with_roots : String → Finding
fault_with_roots text = of_steps course_fault_with_roots (Some (at 0 0, too_many_axes)) text

root_of_a_real : fault_with_roots "(declare-const x Real)\n(assert (= (sqrt (+ x 1)) 2))" ≡ None
root_of_a_real = refl

root_of_unknown : fault_with_roots "(assert (= (sqrt (foo)) 2))" ≡ Some (at 1 18, unknown_symbol (codes "foo"))
root_of_unknown = refl

root_of_a_truth : fault_with_roots "(assert (= (sqrt true) 2))" ≡ Some (at 1 12, sort_mismatch)
root_of_a_truth = refl

root_of_two_arguments : fault_with_roots "(assert (= (sqrt 1 2) 2))" ≡ Some (at 1 12, sort_mismatch)
root_of_two_arguments = refl

root_alone : fault_with_roots "(assert (= sqrt 2))" ≡ Some (at 1 12, sort_mismatch)
root_alone = refl

root_declared : fault_with_roots "(declare-const x Real)\n(declare-const sqrt Real)" ≡ Some (at 2 1, redeclared (codes "sqrt"))
root_declared = refl

root_defined_behind_reset : fault_with_roots "(reset)\n(define-fun sqrt ((y Real)) Real y)" ≡ Some (at 2 1, redeclared (codes "sqrt"))
root_defined_behind_reset = refl

root_behind_reset : fault_with_roots "(declare-const x Real)\n(reset)\n(assert (= (sqrt 2) 2))" ≡ None
root_behind_reset = refl

-- a `let` may bind the name
root_bound : fault_with_roots "(assert (let ((sqrt 2)) (= sqrt 2)))" ≡ None
root_bound = refl

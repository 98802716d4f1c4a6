-- Worked examples: scripts with their first faults.
use Rattle.std.proofs.Common.{◌≡◌, ℕ, List, [], ◌++◌, Some, None, codes, refl}
use Rattle.script_model.specs.Sexp.{Place}
use Rattle.script_fault.specs.declared.fault.FaultKind.TheVariants.{BadCommand, Unbalanced, NumberTooWide, UnknownSymbol, DivisorNotConstant, ZeroDivisor, NoBound, BoundTooWide, NoCheck, LeftOut}
use Rattle.smt_sexp.specs.TextAnswers.{fault_at}
use Rattle.script_reading.specs.Faults.{script_fault}

abbrev at : ℕ → ℕ → Place
at l c = record { line = l; column = c }

abbrev one_real : List ℕ
one_real = codes "(declare-const x Real)\n"

no_check_at_all : script_fault None [] ≡ Some (fault_at (at 0 0) NoCheck)
no_check_at_all = refl

open_parenthesis : script_fault None (codes "(assert true") ≡ Some (fault_at (at 1 1) Unbalanced)
open_parenthesis = refl

lone_parenthesis : script_fault None (codes "(check-sat))\n") ≡ Some (fault_at (at 1 12) Unbalanced)
lone_parenthesis = refl

pushed : script_fault None (codes "(push 1)\n(check-sat)\n") ≡ None
pushed = refl

popped_too_far : script_fault None (codes "(pop 1)\n(check-sat)\n") ≡ Some (fault_at (at 1 1) BadCommand)
popped_too_far = refl

second_check : script_fault None (codes "(check-sat)\n(check-sat)\n") ≡ Some (fault_at (at 2 1) LeftOut)
second_check = refl

popped_name : script_fault None (codes "(push 1)\n(declare-const b Bool)\n(pop 1)\n(assert b)\n(check-sat)\n") ≡ Some (fault_at (at 4 9) (UnknownSymbol (codes "b")))
popped_name = refl

-- the same name, with another sort
declared_again : script_fault None (codes "(push 1)\n(declare-const b Real)\n(pop 1)\n(declare-const b Bool)\n(assert b)\n(check-sat)\n") ≡ None
declared_again = refl

-- what is in force at no check is not unfolded
never_in_force : script_fault None (codes "(push 1)\n(assert (= (/ 1 0) 1))\n(pop 1)\n(check-sat)\n(assert (= (/ 1 0) 1))\n") ≡ None
never_in_force = refl

wide_literal : script_fault None (one_real ++ codes "(assert (< x 1000000000000000000000000000000000000000))\n(check-sat)\n") ≡ Some (fault_at (at 2 14) NumberTooWide)
wide_literal = refl

another_name : script_fault None (codes "(assert (= 0 |sin|))\n(check-sat)\n") ≡ Some (fault_at (at 1 14) (UnknownSymbol (codes "sin")))
another_name = refl

name_in_bars : script_fault None (codes "(assert (= 0 |let|))\n(check-sat)\n") ≡ Some (fault_at (at 1 14) (UnknownSymbol (codes "let")))
name_in_bars = refl

no_divisor : script_fault None (one_real ++ codes "(declare-const y Real)\n(assert (= (/ x y) 1))\n(check-sat)\n") ≡ Some (fault_at (at 3 12) DivisorNotConstant)
unfolding Rattle.dyadic.specs.Fraction.negated Rattle.dyadic.specs.Fraction.sum_of Rattle.dyadic.specs.Fraction.product_of Rattle.dyadic.specs.Fraction.at_most
no_divisor = refl

nought : script_fault None (one_real ++ codes "(assert (= (/ x (- 1 1)) 1))\n(check-sat)\n") ≡ Some (fault_at (at 2 12) ZeroDivisor)
unfolding Rattle.dyadic.specs.Fraction.negated Rattle.dyadic.specs.Fraction.sum_of Rattle.dyadic.specs.Fraction.product_of Rattle.dyadic.specs.Fraction.at_most
nought = refl

unbounded : script_fault None (codes "(declare-const y Real)\n(assert (> (* y y) 2))\n(check-sat)\n") ≡ Some (fault_at (at 1 1) (NoBound (codes "y")))
unfolding Rattle.dyadic.specs.Fraction.negated Rattle.dyadic.specs.Fraction.sum_of Rattle.dyadic.specs.Fraction.product_of Rattle.dyadic.specs.Fraction.at_most
unbounded = refl

bounded_by_words : script_fault (Some 8) (codes "(declare-const y Real)\n(assert (> (* y y) 2))\n(check-sat)\n") ≡ None
unfolding Rattle.dyadic.specs.Fraction.negated Rattle.dyadic.specs.Fraction.sum_of Rattle.dyadic.specs.Fraction.product_of Rattle.dyadic.specs.Fraction.at_most
bounded_by_words = refl

bound_beyond : script_fault None (one_real ++ codes "(assert (<= 0 x 4294967296.1))\n(check-sat)\n") ≡ Some (fault_at (at 1 1) (BoundTooWide (codes "x")))
unfolding Rattle.dyadic.specs.Fraction.negated Rattle.dyadic.specs.Fraction.sum_of Rattle.dyadic.specs.Fraction.product_of Rattle.dyadic.specs.Fraction.at_most
bound_beyond = refl

whole_bound : script_fault None (one_real ++ codes "(assert (<= 0 x 4194305))\n(check-sat)\n") ≡ None
unfolding Rattle.dyadic.specs.Fraction.negated Rattle.dyadic.specs.Fraction.sum_of Rattle.dyadic.specs.Fraction.product_of Rattle.dyadic.specs.Fraction.at_most
whole_bound = refl

-- a comparison's own fault comes only where its form is asked for
comparison_of_wide : script_fault None (codes "(assert (< 1000000000000000000000000000000000000 (- 1)))\n(check-sat)\n") ≡ Some (fault_at (at 1 9) NumberTooWide)
unfolding Rattle.dyadic.specs.Fraction.negated Rattle.dyadic.specs.Fraction.sum_of Rattle.dyadic.specs.Fraction.product_of Rattle.dyadic.specs.Fraction.at_most
comparison_of_wide = refl

never_asked : script_fault None (codes "(assert (distinct 1000000000000000000000000000000000000 (- 1)))\n(check-sat)\n") ≡ None
unfolding Rattle.dyadic.specs.Fraction.negated Rattle.dyadic.specs.Fraction.sum_of Rattle.dyadic.specs.Fraction.product_of Rattle.dyadic.specs.Fraction.at_most
never_asked = refl

-- ---- with roots

root_of_choice : script_fault None (one_real ++ codes "(assert (< (sqrt (ite true 1 2)) 2))\n(check-sat)\n") ≡ Some (fault_at (at 2 12) LeftOut)
unfolding Rattle.dyadic.specs.Fraction.negated Rattle.dyadic.specs.Fraction.sum_of Rattle.dyadic.specs.Fraction.product_of Rattle.dyadic.specs.Fraction.at_most
root_of_choice = refl

-- a name of the script stands before the root
own_root : script_fault None (codes "(define-fun sqrt ((x Bool)) Bool x)\n(assert (sqrt true))\n(check-sat)\n") ≡ None
own_root = refl

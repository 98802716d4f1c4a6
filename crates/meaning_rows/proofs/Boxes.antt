-- Declared boxes of texts, and the first faults of bounds.
use Rattle.std.proofs.Common.{◌≡◌, ℕ, pos, negsuc, Option, Some, None, codes, refl}
use Prim.Native.String.{String}
use Rattle.dyadic.specs.Fraction.{Fraction, whole}
use Rattle.dyadic.specs.Point.{real_sort}
use Rattle.script_model.specs.Script.{Constant}
use Rattle.script_model.specs.Declared.{DeclaredInterval, declared_interval, BoundFault, no_bound, bound_too_wide, bound_fault}
use Rattle.meaning_rows.proofs.Asked.{at, of_text}

abbrev nowhere : DeclaredInterval
nowhere = record { low = None; high = None }

-- the declared interval of an axis, where no bound is given beside the text
abbrev interval : ℕ → String → DeclaredInterval
interval axis text = of_text (λ s. declared_interval None s axis) nowhere text

abbrev between : Fraction → Fraction → DeclaredInterval
between l h = record { low = Some l; high = Some h }

abbrev number : ℕ → Fraction
number n = whole (pos n)

abbrev fault : Option ℕ → String → Option (Constant × BoundFault)
fault bound text = of_text (bound_fault bound) None text

-- a Real constant that is declared in this line
abbrev declared : String → ℕ → Constant
declared name line = record { at = at line 1; name = codes name; sort = real_sort }

chain : interval 0 "(declare-const x Real)\n(assert (<= 0 x 1))\n" ≡ between (number 0) (number 1)
unfolding Rattle.dyadic.specs.Fraction.negated Rattle.dyadic.specs.Fraction.sum_of Rattle.dyadic.specs.Fraction.product_of Rattle.dyadic.specs.Fraction.quotient_of Rattle.dyadic.specs.Fraction.at_most
chain = refl

-- a strict bound counts as closed, and the least upper bound holds
strict : interval 0 "(declare-const x Real)\n(assert (<= 0 x 1))\n(assert (< x 0))" ≡ between (number 0) (number 0)
unfolding Rattle.dyadic.specs.Fraction.negated Rattle.dyadic.specs.Fraction.sum_of Rattle.dyadic.specs.Fraction.product_of Rattle.dyadic.specs.Fraction.quotient_of Rattle.dyadic.specs.Fraction.at_most
strict = refl

-- the bounds may cross
crossed : interval 0 "(declare-const x Real)\n(assert (>= x 1))\n(assert (<= x 0))" ≡ between (number 1) (number 0)
unfolding Rattle.dyadic.specs.Fraction.negated Rattle.dyadic.specs.Fraction.sum_of Rattle.dyadic.specs.Fraction.product_of Rattle.dyadic.specs.Fraction.quotient_of Rattle.dyadic.specs.Fraction.at_most
crossed = refl

-- an equation is a bound on both sides
third : interval 0 "(declare-const x Real)\n(assert (= x (/ 1 3)))" ≡ between (record { num = pos 1; den = 3 }) (record { num = pos 1; den = 3 })
unfolding Rattle.dyadic.specs.Fraction.negated Rattle.dyadic.specs.Fraction.sum_of Rattle.dyadic.specs.Fraction.product_of Rattle.dyadic.specs.Fraction.quotient_of Rattle.dyadic.specs.Fraction.at_most
third = refl

third_fault : fault None "(declare-const x Real)\n(assert (= x (/ 1 3)))" ≡ None
unfolding Rattle.dyadic.specs.Fraction.negated Rattle.dyadic.specs.Fraction.sum_of Rattle.dyadic.specs.Fraction.product_of Rattle.dyadic.specs.Fraction.quotient_of Rattle.dyadic.specs.Fraction.at_most
third_fault = refl

-- an annotation, a binding, a definition, a sum and a product of one are unfolded
under_and : interval 0 "(declare-const x Real)\n(define-fun f ((y Real)) Bool (<= y 2))\n(assert (let ((z (+ x))) (! (and (f z) (and (> 3 (* 2) z)) (>= z (- 1))) :named n)))" ≡ between (whole (negsuc 0)) (number 2)
unfolding Rattle.dyadic.specs.Fraction.negated Rattle.dyadic.specs.Fraction.sum_of Rattle.dyadic.specs.Fraction.product_of Rattle.dyadic.specs.Fraction.quotient_of Rattle.dyadic.specs.Fraction.at_most
under_and = refl

-- a bound stands under conjunctions from the top alone, and bounds a constant itself
under_or : interval 0 "(declare-const x Real)\n(assert (or (<= x 2)))\n(assert (not (< x 2)))\n(assert (<= (* 1 x) 2))" ≡ nowhere
unfolding Rattle.dyadic.specs.Fraction.negated Rattle.dyadic.specs.Fraction.sum_of Rattle.dyadic.specs.Fraction.product_of Rattle.dyadic.specs.Fraction.quotient_of Rattle.dyadic.specs.Fraction.at_most
under_or = refl

-- 0 times a Real constant is no constant expression
no_constant : interval 0 "(declare-const x Real)\n(declare-const y Real)\n(assert (<= x (* 0 y)))" ≡ nowhere
unfolding Rattle.dyadic.specs.Fraction.negated Rattle.dyadic.specs.Fraction.sum_of Rattle.dyadic.specs.Fraction.product_of Rattle.dyadic.specs.Fraction.quotient_of Rattle.dyadic.specs.Fraction.at_most
no_constant = refl

million : interval 0 "(declare-const x Real)\n(assert (<= 0 x 4194304))" ≡ between (number 0) (number 4194304)
unfolding Rattle.dyadic.specs.Fraction.negated Rattle.dyadic.specs.Fraction.sum_of Rattle.dyadic.specs.Fraction.product_of Rattle.dyadic.specs.Fraction.quotient_of Rattle.dyadic.specs.Fraction.at_most
million = refl

million_fault : fault None "(declare-const x Real)\n(assert (<= 0 x 4194305))" ≡ None
unfolding Rattle.dyadic.specs.Fraction.negated Rattle.dyadic.specs.Fraction.sum_of Rattle.dyadic.specs.Fraction.product_of Rattle.dyadic.specs.Fraction.quotient_of Rattle.dyadic.specs.Fraction.at_most
million_fault = refl

-- 2^100 is kept, the next whole number is not
power_fault : fault None "(declare-const x Real)\n(assert (<= 0 x 1267650600228229401496703205376))" ≡ None
unfolding Rattle.dyadic.specs.Fraction.negated Rattle.dyadic.specs.Fraction.sum_of Rattle.dyadic.specs.Fraction.product_of Rattle.dyadic.specs.Fraction.quotient_of Rattle.dyadic.specs.Fraction.at_most
power_fault = refl

no_power_fault : fault None "(declare-const x Real)\n(assert (<= 0 x 1267650600228229401496703205377))" ≡ Some (declared "x" 1, bound_too_wide)
unfolding Rattle.dyadic.specs.Fraction.negated Rattle.dyadic.specs.Fraction.sum_of Rattle.dyadic.specs.Fraction.product_of Rattle.dyadic.specs.Fraction.quotient_of Rattle.dyadic.specs.Fraction.at_most
no_power_fault = refl

-- 2^32 and a tenth is above 2^32 and not kept, a tenth less is not above
tenth_above : fault None "(declare-const x Real)\n(assert (<= 0 x 4294967296.1))" ≡ Some (declared "x" 1, bound_too_wide)
unfolding Rattle.dyadic.specs.Fraction.negated Rattle.dyadic.specs.Fraction.sum_of Rattle.dyadic.specs.Fraction.product_of Rattle.dyadic.specs.Fraction.quotient_of Rattle.dyadic.specs.Fraction.at_most
tenth_above = refl

tenth_below : fault None "(declare-const x Real)\n(assert (<= 0 x 4294967295.9))" ≡ None
unfolding Rattle.dyadic.specs.Fraction.negated Rattle.dyadic.specs.Fraction.sum_of Rattle.dyadic.specs.Fraction.product_of Rattle.dyadic.specs.Fraction.quotient_of Rattle.dyadic.specs.Fraction.at_most
tenth_below = refl

tenth_below_nought : fault None "(declare-const x Real)\n(assert (<= (- 4294967296.1) x 0))" ≡ Some (declared "x" 1, bound_too_wide)
unfolding Rattle.dyadic.specs.Fraction.negated Rattle.dyadic.specs.Fraction.sum_of Rattle.dyadic.specs.Fraction.product_of Rattle.dyadic.specs.Fraction.quotient_of Rattle.dyadic.specs.Fraction.at_most
tenth_below_nought = refl

no_bound_of_y : fault None "(declare-const y Real)\n(assert (> (* y y) 2))" ≡ Some (declared "y" 1, no_bound)
unfolding Rattle.dyadic.specs.Fraction.negated Rattle.dyadic.specs.Fraction.sum_of Rattle.dyadic.specs.Fraction.product_of Rattle.dyadic.specs.Fraction.quotient_of Rattle.dyadic.specs.Fraction.at_most
no_bound_of_y = refl

bound_of_words : fault (Some 8) "(declare-const y Real)\n(assert (> (* y y) 2))" ≡ None
unfolding Rattle.dyadic.specs.Fraction.negated Rattle.dyadic.specs.Fraction.sum_of Rattle.dyadic.specs.Fraction.product_of Rattle.dyadic.specs.Fraction.quotient_of Rattle.dyadic.specs.Fraction.at_most
bound_of_words = refl

interval_of_words : of_text (λ s. declared_interval (Some 8) s 0) nowhere "(declare-const y Real)\n(assert (> (* y y) 2))" ≡ between (whole (negsuc 7)) (number 8)
unfolding Rattle.dyadic.specs.Fraction.negated Rattle.dyadic.specs.Fraction.sum_of Rattle.dyadic.specs.Fraction.product_of Rattle.dyadic.specs.Fraction.quotient_of Rattle.dyadic.specs.Fraction.at_most
interval_of_words = refl

-- axis by axis, and of one axis a missing end first
axis_by_axis : fault None "(declare-const x Real)\n(declare-const y Real)\n(declare-const b Bool)\n(assert (<= 0 x 4294967296.1))\n(assert b)" ≡ Some (declared "x" 1, bound_too_wide)
unfolding Rattle.dyadic.specs.Fraction.negated Rattle.dyadic.specs.Fraction.sum_of Rattle.dyadic.specs.Fraction.product_of Rattle.dyadic.specs.Fraction.quotient_of Rattle.dyadic.specs.Fraction.at_most
axis_by_axis = refl

missing_first : fault None "(declare-const x Real)\n(declare-const y Real)\n(assert (<= x 4294967296.1))" ≡ Some (declared "x" 1, no_bound)
unfolding Rattle.dyadic.specs.Fraction.negated Rattle.dyadic.specs.Fraction.sum_of Rattle.dyadic.specs.Fraction.product_of Rattle.dyadic.specs.Fraction.quotient_of Rattle.dyadic.specs.Fraction.at_most
missing_first = refl

second_axis : fault None "(declare-const x Real)\n(assert (<= 0 x 1))\n(declare-const y Real)\n(declare-const b Bool)\n(assert b)" ≡ Some (declared "y" 3, no_bound)
unfolding Rattle.dyadic.specs.Fraction.negated Rattle.dyadic.specs.Fraction.sum_of Rattle.dyadic.specs.Fraction.product_of Rattle.dyadic.specs.Fraction.quotient_of Rattle.dyadic.specs.Fraction.at_most
second_axis = refl

-- The square root of 2 as a real point, and a real point on the edge of the box.
use Rattle.std.specs.Prelude.{ℕ, zero, suc, ◌*◌, List, [], ◌∷◌, cond, codes, pos, None, nat_le}
use Rattle.dyadic.specs.Fraction.{Fraction, IsFraction, zero_fraction}
use Rattle.dyadic.specs.Point.{real_sort, at_fraction}
use Rattle.script_model.specs.Sexp.{Place, Sexp, leaf, group, more, none, symbol, numeral}
use Rattle.script_model.specs.Script.{Command, declare, claim, check}
use Rattle.script_model.specs.Exact.{SatisfiesExactly}
use Rattle.headline.specs.Laws.{HasNoPoint}
use Rattle.real_points.specs.Real.{Sequence}
use Rattle.real_points.specs.RealPoint.{at_real, IsInDeclaredBox}
use Rattle.real_points.specs.RealMeaning.{SatisfiesOverReals}
use Rattle.real_points.specs.Laws.{IsBelow}

abbrev pub nowhere : Place
nowhere = record { line = 1; column = 1 }

abbrev pub name : List ℕ → Sexp
name x = leaf nowhere (symbol x)

abbrev pub digits : List ℕ → Sexp
digits d = leaf nowhere (numeral d)

-- (declare-const x Real) (assert (<= 1 x 2)) (assert (= (* x x) 2)) (check-sat)
abbrev pub root_script : List Command
root_script =
    declare nowhere (codes "x") real_sort ∷
    claim nowhere (group nowhere (more (name (codes "<=")) (more (digits (codes "1")) (more (name (codes "x")) (more (digits (codes "2")) none))))) ∷
    claim nowhere (group nowhere (more (name (codes "=")) (more (group nowhere (more (name (codes "*")) (more (name (codes "x")) (more (name (codes "x")) none)))) (more (digits (codes "2")) none)))) ∷
    check nowhere ∷ []

-- the greatest number up to k whose square is at most n
abbrev pub root_up_to : ℕ → ℕ → ℕ
root_up_to zero n = zero
root_up_to (suc k) n = cond (nat_le (suc k * suc k) n) (suc k) (root_up_to k n)

-- the square root of 2, rounded down to a multiple of 1/(n + 1)
abbrev pub root_of_two : Sequence
root_of_two n = record { num = pos (root_up_to (2 * suc n) (2 * (suc n * suc n))); den = suc n }

-- 0, 1/2, 2/3, ..: the number 1
abbrev pub one_from_below : Sequence
one_from_below n = record { num = pos n; den = suc n }

-- the square root of 2 lies in the declared box and satisfies the script as SMT-LIB has it
abbrev pub RootSatisfies : Type 0
RootSatisfies = IsInDeclaredBox None root_script (at_real root_of_two ∷ []) × SatisfiesOverReals (at_real root_of_two ∷ []) root_script

-- no rational point does
abbrev pub NoFractionSatisfies : Type 0
NoFractionSatisfies = (q : Fraction) → IsFraction q → SatisfiesExactly (at_fraction q ∷ []) root_script → ⊥

-- so the script has no margin at which no rational point satisfies it
abbrev pub RootIsNoUnsat : Type 0
RootIsNoUnsat = (margin : Fraction) → IsFraction margin → IsBelow zero_fraction margin → HasNoPoint None root_script margin → ⊥

-- a real point on the edge lies in the box, though each fraction that gives it lies outside
abbrev pub EdgeIsIn : Type 0
EdgeIsIn = IsInDeclaredBox None root_script (at_real one_from_below ∷ [])

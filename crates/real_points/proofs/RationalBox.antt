-- A rational point lies in the declared box as a real point exactly where it does as a rational one.
use Rattle.std.proofs.Common.{ℕ, suc, ◌*◌, List, [], ◌∷◌, map, Option, Some, None, IsTrue, arith, ℤ, pos, ◌+ℤ◌, ◌*ℤ◌, neg_ℤ, ◌≤ℤ◌}
use Rattle.dyadic.specs.Fraction.{Fraction, IsFraction, sum_of, difference_of, negated, at_most}
use Rattle.dyadic.specs.Point.{Sort, real_sort, bool_sort, Coordinate, at_fraction, at_bool}
use Rattle.dyadic.proofs.Equal.{le_holds, through}
use Rattle.dyadic.proofs.Ring.{atom, natural, plus, minus, times, below}
use Rattle.script_model.specs.Script.{Command, sorts_of}
use Rattle.script_model.specs.Declared.{DeclaredInterval, declared_interval, IfBelow, IfAbove, InBox, InDeclaredBox}
use Rattle.real_points.specs.Real.{IsReal, part}
use Rattle.real_points.specs.RealPoint.{IsInBox, IsInDeclaredBox, as_real}
use Rattle.real_points.proofs.Sizes.{close_itself, close_below, grown, across}
use Rattle.real_points.proofs.Rational.{closed_above}

no-gap-at : (a : ℤ) (b M N : ℕ) → (((a *ℤ pos b) +ℤ (neg_ℤ a *ℤ pos b)) *ℤ pos (M * N)) ≤ℤ (((pos 1 *ℤ pos N) +ℤ (pos 1 *ℤ pos M)) *ℤ pos (b * b))
no-gap-at a b M N = below (times (plus (times (atom a) (natural b)) (times (minus (atom a)) (natural b))) (natural (M * N)))
    (times (plus (times (natural 1) (natural N)) (times (natural 1) (natural M))) (natural (b * b))) (omega arith)

no-gap : (q : Fraction) (m n : ℕ) → IsTrue (at_most (difference_of q q) (sum_of (part m) (part n)))
unfolding at_most sum_of negated
no-gap q m n = le_holds _ _ (no-gap-at q.num q.den (suc m) (suc n))

is-real : (q : Fraction) → IsFraction q → IsReal (λ n. q)
is-real q f = record { fractions = λ n. f; regular = λ m n. (no-gap q m n, no-gap q m n) }

-- ---- one end

low-in : (o : Option Fraction) (q : Fraction) (n : ℕ) → IsFraction q → IfBelow o q → IfBelow o (sum_of q (part n))
low-in None q n f h = h
low-in (Some l) q n f h = through l q (sum_of q (part n)) f h (grown 1 n q)

low-out : (o : Option Fraction) (q : Fraction) → ((n : ℕ) → IfBelow o (sum_of q (part n))) → IfBelow o q
low-out None q h = h 0
low-out (Some l) q h = closed_above l q (l.den * q.den) (omega arith) (h (l.den * q.den))

high-in : (o : Option Fraction) (q : Fraction) (n : ℕ) → IsFraction q → IfAbove o q → IfAbove o (difference_of q (part n))
high-in None q n f h = h
high-in (Some u) q n f h = through (difference_of q (part n)) q u f (close_below 1 n q q (close_itself 1 n q)) h

high-out : (o : Option Fraction) (q : Fraction) → ((n : ℕ) → IfAbove o (difference_of q (part n))) → IfAbove o q
high-out None q h = h 0
high-out (Some u) q h = let n = q.den * u.den in closed_above q u n (omega arith) (across 1 n q u (h n))

-- ---- all axes

box-in : (box : ℕ → DeclaredInterval) (axis : ℕ) (sorts : List Sort) (point : List Coordinate) → InBox box axis sorts point → IsInBox box axis sorts (map as_real point)
box-in box axis [] [] h = tt
box-in box axis (real_sort ∷ sorts) (at_fraction q ∷ point) h =
    ((is-real q h.0.0, λ n. low-in (box axis).low q n h.0.0 h.0.1, λ n. high-in (box axis).high q n h.0.0 h.0.2), box-in box (suc axis) sorts point h.1)
box-in box axis (bool_sort ∷ sorts) (at_bool b ∷ point) h = box-in box (suc axis) sorts point h.1
box-in box axis [] (c ∷ point) h = elim h [ ]
box-in box axis (s ∷ sorts) [] h = elim h [ ]
box-in box axis (real_sort ∷ sorts) (at_bool b ∷ point) h = elim h.0 [ ]
box-in box axis (bool_sort ∷ sorts) (at_fraction q ∷ point) h = elim h.0 [ ]

box-out : (box : ℕ → DeclaredInterval) (axis : ℕ) (sorts : List Sort) (point : List Coordinate) → IsInBox box axis sorts (map as_real point) → InBox box axis sorts point
box-out box axis [] [] h = tt
box-out box axis (real_sort ∷ sorts) (at_fraction q ∷ point) h =
    ((h.0.0.fractions 0, low-out (box axis).low q h.0.1, high-out (box axis).high q h.0.2), box-out box (suc axis) sorts point h.1)
box-out box axis (bool_sort ∷ sorts) (at_bool b ∷ point) h = (tt, box-out box (suc axis) sorts point h)
box-out box axis [] (c ∷ point) h = elim h [ ]
box-out box axis (real_sort ∷ sorts) [] h = elim h [ ]
box-out box axis (bool_sort ∷ sorts) [] h = elim h [ ]
box-out box axis (real_sort ∷ sorts) (at_bool b ∷ point) h = elim h [ ]
box-out box axis (bool_sort ∷ sorts) (at_fraction q ∷ point) h = elim h [ ]

pub rational_in_box : (bound : Option ℕ) (script : List Command) (point : List Coordinate) →
    (IsInDeclaredBox bound script (map as_real point) → InDeclaredBox bound script point) × (InDeclaredBox bound script point → IsInDeclaredBox bound script (map as_real point))
rational_in_box bound script point = (box-out (declared_interval bound script) 0 (sorts_of script) point, box-in (declared_interval bound script) 0 (sorts_of script) point)

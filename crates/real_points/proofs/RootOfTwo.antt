-- The square root of 2.
use Rattle.std.proofs.Common.{◌≡◌, ℕ, zero, suc, ◌+◌, ◌*◌, ◌<◌, ◌≤◌, [], ◌∷◌, Bool, true, false, cond, None, IsTrue, refl, arith, pos, mul-le-mul_right, mul-pos, lit<}
use Rattle.std.specs.Prelude.{nat_le}
use Rattle.std.proofs.lemmas.Bool.{leb-true, leb-false}
use Rattle.dyadic.specs.Fraction.{Fraction, IsFraction, zero_fraction, sum_of, difference_of, product_of, at_most}
use Rattle.dyadic.proofs.Equal.{le_holds}
use Rattle.dyadic.proofs.Ring.{natural, plus, minus, times, below}
use Rattle.script_model.specs.Declared.{declared_interval}
use Rattle.headline.specs.Laws.{HasNoPoint}
use Rattle.real_points.specs.Real.{IsReal, IsWithin, part}
use Rattle.real_points.specs.RealPoint.{at_real, IsInDeclaredBox, LiesBetween}
use Rattle.real_points.specs.RealMeaning.{SatisfiesOverReals}
use Rattle.real_points.proofs.OverReals.{over_reals_is_loosened}
use Rattle.real_points.specs.RootOfTwo.{root_script, root_up_to, root_of_two, one_from_below}
use Rattle.real_points.specs.Laws.{IsBelow}
use Rattle.real_points.proofs.Sizes.{products}
use Rattle.real_points.proofs.Truth.{rational_points_suffice}

-- r is the square root of n rounded down
record IsRoot (n r : ℕ) : Type 0 where
  at_least : r * r ≤ n
  at_last : n < suc r * suc r

root-step : (k n : ℕ) (b : Bool) → nat_le (suc k * suc k) n ≡ b → n < suc (suc k) * suc (suc k) → (n < suc k * suc k → IsRoot n (root_up_to k n)) → IsRoot n (cond b (suc k) (root_up_to k n))
root-step k n true e h next = record { at_least = leb-true (suc k * suc k) n e; at_last = h }
root-step k n false e h next = next (leb-false (suc k * suc k) n e)

root-is : (k n : ℕ) → n < suc k * suc k → IsRoot n (root_up_to k n)
root-is zero n h = record { at_least = omega arith; at_last = h }
root-is (suc k) n h = root-step k n (nat_le (suc k * suc k) n) refl h (root-is k n)

-- of 2 N^2
root : ℕ → ℕ
root n = root_up_to (2 * suc n) (2 * (suc n * suc n))

root-of : (n : ℕ) → IsRoot (2 * (suc n * suc n)) (root n)
unfolding root
root-of n = root-is (2 * suc n) (2 * (suc n * suc n)) (omega arith)

-- the same sequence, whose numerators do not compute
spelled : (n : ℕ) → root_of_two n ≡ record { num = pos (root n); den = suc n }
unfolding root
spelled n = refl

squares : (a b : ℕ) → a * a < b * b → a < b
squares a b h = grind (arith, products b a b a)

between : (M N r s : ℕ) → r * r ≤ 2 * (M * M) → 2 * (N * N) < suc s * suc s → 0 < M → r * N < suc s * M
between M N r s h k p = squares (r * N) (suc s * M) (omega (arith, mul-le-mul_right (N * N) h, mul-le-mul_right (M * M) k, mul-pos p p))

one-side : (r s M N : ℕ) → r * N ≤ s * M + M → IsTrue (at_most (difference_of (record { num = pos r; den = M }) (record { num = pos s; den = N })) (sum_of (record { num = pos 1; den = M }) (record { num = pos 1; den = N })))
unfolding at_most sum_of Rattle.dyadic.specs.Fraction.negated
one-side r s M N h = le_holds _ _ (below (times (plus (times (natural r) (natural N)) (times (minus (natural s)) (natural M))) (natural (M * N))) (times (natural (1 * N + 1 * M)) (natural (M * N)))
    (omega (arith, mul-le-mul_right (M * N) h)))

other-side : (r s M N : ℕ) → s * M ≤ r * N + N → IsTrue (at_most (difference_of (record { num = pos s; den = N }) (record { num = pos r; den = M })) (sum_of (record { num = pos 1; den = M }) (record { num = pos 1; den = N })))
unfolding at_most sum_of Rattle.dyadic.specs.Fraction.negated
other-side r s M N h = le_holds _ _ (below (times (plus (times (natural s) (natural M)) (times (minus (natural r)) (natural N))) (natural (M * N))) (times (natural (1 * N + 1 * M)) (natural (N * M)))
    (omega (arith, mul-le-mul_right (M * N) h)))

regular-at : (m n : ℕ) → IsWithin (sum_of (part m) (part n)) (record { num = pos (root m); den = suc m }) (record { num = pos (root n); den = suc n })
regular-at m n =
    let f : root m * suc n < suc (root n) * suc m = between (suc m) (suc n) (root m) (root n) (root-of m).at_least (root-of n).at_last (omega arith) in
    let g : root n * suc m < suc (root m) * suc n = between (suc n) (suc m) (root n) (root m) (root-of n).at_least (root-of m).at_last (omega arith) in
    (one-side (root m) (root n) (suc m) (suc n) (omega (arith, f)), other-side (root m) (root n) (suc m) (suc n) (omega (arith, g)))

root-is-real : IsReal root_of_two
root-is-real = record { fractions = λ n. omega arith; regular = λ m n. rw (spelled m, spelled n) (regular-at m n) }

low-at : (r N : ℕ) → N ≤ r + 1 → IsTrue (at_most (record { num = pos 1; den = 1 }) (sum_of (record { num = pos r; den = N }) (record { num = pos 1; den = N })))
unfolding at_most sum_of
low-at r N h = le_holds _ _ (below (times (natural 1) (natural (N * N))) (times (plus (times (natural r) (natural N)) (times (natural 1) (natural N))) (natural 1)) (omega (arith, mul-le-mul_right N h)))

high-at : (r N : ℕ) → r ≤ 2 * N + 1 → IsTrue (at_most (difference_of (record { num = pos r; den = N }) (record { num = pos 1; den = N })) (record { num = pos 2; den = 1 }))
unfolding at_most sum_of Rattle.dyadic.specs.Fraction.negated
high-at r N h = le_holds _ _ (below (times (plus (times (natural r) (natural N)) (times (minus (natural 1)) (natural N))) (natural 1)) (times (natural 2) (natural (N * N))) (omega (arith, mul-le-mul_right N h)))

not-far : (N r : ℕ) → IsRoot (2 * (N * N)) r → (N ≤ r) × (r ≤ 2 * N)
not-far N r h = let f : N < suc r = squares N (suc r) (omega (arith, h.at_last)) in let g : r < suc (2 * N) = squares r (suc (2 * N)) (omega (arith, h.at_least)) in (omega (arith, f), omega (arith, g))

root-between : LiesBetween (declared_interval None root_script 0) root_of_two
root-between = (
  root-is-real,
  λ n. rw (spelled n) (low-at (root n) (suc n) (omega (arith, (not-far (suc n) (root n) (root-of n)).0))),
  λ n. rw (spelled n) (high-at (root n) (suc n) (omega (arith, (not-far (suc n) (root n) (root-of n)).1))),
)

-- ---- the number 1, from below

edge-regular : (m n : ℕ) → IsWithin (sum_of (part m) (part n)) (one_from_below m) (one_from_below n)
edge-regular m n = (one-side m n (suc m) (suc n) (omega arith), other-side m n (suc m) (suc n) (omega arith))

pub edge_is_in : IsInDeclaredBox None root_script (at_real one_from_below ∷ [])
edge_is_in = (
  (record { fractions = λ n. omega arith; regular = λ m n. edge-regular m n }, λ n. low-at n (suc n) (omega arith), λ n. high-at n (suc n) (omega arith)),
  tt,
)

-- ---- the script

abbrev x-at : ℕ → ℕ → Fraction
x-at r N = record { num = pos r; den = N }

above-one : (k r N : ℕ) → N ≤ r → IsTrue (at_most (record { num = pos 1; den = 1 }) (sum_of (x-at r N) (part k)))
unfolding at_most sum_of
above-one k r N h = le_holds _ _ (below (times (natural 1) (natural (N * suc k))) (times (plus (times (natural r) (natural (suc k))) (times (natural 1) (natural N))) (natural 1))
    (omega (arith, mul-le-mul_right (suc k) h)))

below-two : (k r N : ℕ) → r ≤ 2 * N → IsTrue (at_most (x-at r N) (sum_of (record { num = pos 2; den = 1 }) (part k)))
unfolding at_most sum_of
below-two k r N h = le_holds _ _ (below (times (natural r) (natural (1 * suc k))) (times (plus (times (natural 2) (natural (suc k))) (times (natural 1) (natural 1))) (natural N))
    (omega (arith, mul-le-mul_right (suc k) h)))

square-below : (k r N : ℕ) → r * r ≤ 2 * (N * N) → IsTrue (at_most (product_of (x-at r N) (x-at r N)) (sum_of (record { num = pos 2; den = 1 }) (part k)))
unfolding at_most sum_of product_of
square-below k r N h = le_holds _ _ (below (times (times (natural r) (natural r)) (natural (1 * suc k))) (times (plus (times (natural 2) (natural (suc k))) (times (natural 1) (natural 1))) (natural (N * N)))
    (omega (arith, mul-le-mul_right (suc k) h)))

square-above : (k r N : ℕ) → r ≤ 2 * N → 2 * (N * N) < suc r * suc r → 4 * suc k ≤ N → IsTrue (at_most (record { num = pos 2; den = 1 }) (sum_of (product_of (x-at r N) (x-at r N)) (part k)))
unfolding at_most sum_of product_of
square-above k r N h i l = le_holds _ _ (below (times (natural 2) (natural (N * N * suc k))) (times (plus (times (times (natural r) (natural r)) (natural (suc k))) (times (natural 1) (natural (N * N)))) (natural 1))
    (let a : 2 * (N * N) ≤ r * r + 4 * N = omega (arith, i, h) in omega (arith, mul-le-mul_right (suc k) a, mul-le-mul_right N l)))

pub root_satisfies : IsInDeclaredBox None root_script (at_real root_of_two ∷ []) × SatisfiesOverReals (at_real root_of_two ∷ []) root_script
root_satisfies = (
  (root-between, tt),
  (
    (
      λ k. (0, λ n l. rw (spelled n) (above-one k (root n) (suc n) (not-far (suc n) (root n) (root-of n)).0)),
      (λ k. (0, λ n l. rw (spelled n) (below-two k (root n) (suc n) (not-far (suc n) (root n) (root-of n)).1)), tt),
    ),
    (
      (
        (
          λ k. (0, λ n l. rw (spelled n) (square-below k (root n) (suc n) (root-of n).at_least)),
          λ k. (4 * suc k, λ n l. rw (spelled n) (square-above k (root n) (suc n) (not-far (suc n) (root n) (root-of n)).1 (root-of n).at_last (omega (arith, l)))),
        ),
        tt,
      ),
      tt,
    ),
  ),
)

pub root_is_no_unsat : (margin : Fraction) → IsFraction margin → IsBelow zero_fraction margin → HasNoPoint None root_script margin → ⊥
root_is_no_unsat margin f h none =
    rational_points_suffice None root_script refl margin zero_fraction f (lit< tt) h none (at_real root_of_two ∷ []) root_satisfies.0 (over_reals_is_loosened (at_real root_of_two ∷ []) root_script root_satisfies.1)

-- The n-th fractions of real points: those of the same point come together, and those of the declared box have points of
-- the box beside them.
use Rattle.std.proofs.Common.{◌≡◌, ℕ, suc, ◌+◌, ◌*◌, ◌≤◌, List, [], ◌∷◌, Bool, true, false, cond, Option, Some, None, IsTrue, refl, sym, ◌∙◌, inl, inr, arith, nat_abs, le_of_mul-le-mul_right, true≢false}
use Rattle.dyadic.specs.Fraction.{Fraction, IsFraction, sum_of, difference_of, at_most}
use Rattle.dyadic.specs.Point.{Sort, real_sort, bool_sort, Coordinate, at_fraction, at_bool}
use Rattle.dyadic.proofs.Equal.{through, total}
use Rattle.script_model.specs.Declared.{DeclaredInterval, IfBelow, IfAbove, InBox}
use Rattle.script_model.proofs.Bounds.{IfFraction}
use Rattle.real_points.specs.Real.{Sequence, IsReal, AreEqual, part}
use Rattle.real_points.specs.RealPoint.{RealCoordinate, at_real, at_truth, IsRealPoint, IsSamePoint, LiesBetween, IsInBox, nth_point}
use Rattle.real_points.proofs.Sizes.{IsSized, IsClose, ratio, sized_constant, sized_beside, sized_more, close_itself, close_from, within_sized, grown, across, twice, limit}
use Rattle.real_points.proofs.Terms.{AreClose}
use Rattle.real_points.proofs.Moves.{own}

-- ---- sizes

first-at : (w n d : ℕ) → w * (1 * suc n) ≤ (1 * suc n + 1 * 1) * d → w * 1 ≤ 2 * d
first-at w n d h = le_of_mul-le-mul_right {k = suc n} (omega (arith, h)) (omega arith)

-- every fraction of a real number is within 2 of the first
beside-first : (x : Sequence) → IsReal x → (n : ℕ) → IsClose 2 0 (x 0) (x n)
unfolding sum_of
beside-first x r n = record { close = first-at _ n ((x 0).den * (x n).den) (within_sized (1 * suc n + 1 * 1) (1 * suc n) (x 0) (x n) (r.regular 0 n)) }

abbrev bound_at : Sequence → ℕ
bound_at x = nat_abs (x 0).num + 2

sized-at : (x : Sequence) → IsReal x → (n : ℕ) → IsSized (bound_at x) (x n)
sized-at x r n = sized_beside (nat_abs (x 0).num) 2 0 (x 0) (x n) (r.fractions 0) (sized_constant (x 0) (r.fractions 0)) (beside-first x r n)

-- a bound of the sizes of all coordinates
abbrev pub bound_of_point : List RealCoordinate → ℕ
bound_of_point [] = 0
bound_of_point (at_real x ∷ point) = bound_at x + bound_of_point point
bound_of_point (at_truth b ∷ point) = bound_of_point point

-- ---- the same point

equal-at : (w n d : ℕ) → w * (suc n * suc n) ≤ (1 * suc n + 1 * suc n) * d → w * suc n ≤ 2 * d
equal-at w n d h = le_of_mul-le-mul_right {k = suc n} (omega (arith, h)) (omega arith)

equal-close : (x y : Sequence) → AreEqual x y → (n : ℕ) → IsClose 2 n (x n) (y n)
unfolding sum_of
equal-close x y e n = record { close = equal-at _ n ((x n).den * (y n).den) (within_sized (1 * suc n + 1 * suc n) (suc n * suc n) (x n) (y n) (e n)) }

pub same_close : (b n : ℕ) (sorts : List Sort) (xs ys : List RealCoordinate) → IsRealPoint sorts xs → IsRealPoint sorts ys → IsSamePoint xs ys → bound_of_point xs + bound_of_point ys ≤ b →
    AreClose b 2 n sorts (nth_point n xs) (nth_point n ys)
same_close b n [] [] [] i j e l = tt
same_close b n (real_sort ∷ sorts) (at_real x ∷ xs) (at_real y ∷ ys) i j e l = (
  (
    i.0.fractions n,
    j.0.fractions n,
    sized_more (bound_at x) b (x n) (omega (arith, l)) (sized-at x i.0 n),
    sized_more (bound_at y) b (y n) (omega (arith, l)) (sized-at y j.0 n),
    equal-close x y e.0 n,
  ),
  same_close b n sorts xs ys i.1 j.1 e.1 (omega (arith, l)),
)
same_close b n (bool_sort ∷ sorts) (at_truth v ∷ xs) (at_truth w ∷ ys) i j e l = (e.0, same_close b n sorts xs ys i j e.1 l)
same_close b n [] [] (y ∷ ys) i j e l = elim e [ ]
same_close b n [] (x ∷ xs) ys i j e l = elim i [ ]
same_close b n (real_sort ∷ sorts) [] ys i j e l = elim i [ ]
same_close b n (real_sort ∷ sorts) (at_truth v ∷ xs) ys i j e l = elim i [ ]
same_close b n (real_sort ∷ sorts) (at_real x ∷ xs) [] i j e l = elim e [ ]
same_close b n (real_sort ∷ sorts) (at_real x ∷ xs) (at_truth w ∷ ys) i j e l = elim e [ ]
same_close b n (bool_sort ∷ sorts) [] ys i j e l = elim i [ ]
same_close b n (bool_sort ∷ sorts) (at_real x ∷ xs) ys i j e l = elim i [ ]
same_close b n (bool_sort ∷ sorts) (at_truth v ∷ xs) [] i j e l = elim e [ ]
same_close b n (bool_sort ∷ sorts) (at_truth v ∷ xs) (at_real y ∷ ys) i j e l = elim e [ ]

-- ---- the declared box

-- q, or the end that it lies beyond
abbrev raised : Option Fraction → Fraction → Fraction
raised None q = q
raised (Some l) q = cond (at_most l q) q l

abbrev lowered : Option Fraction → Fraction → Fraction
lowered None q = q
lowered (Some h) q = cond (at_most q h) q h

abbrev pub held : DeclaredInterval → Fraction → Fraction
held i q = lowered i.high (raised i.low q)

other-way : (p q : Fraction) → at_most p q ≡ false → IsTrue (at_most q p)
other-way p q e = elim (total p q) [ inl h ↦ absurd (true≢false (sym h ∙ e)) | inr h ↦ h ]

-- r is q held between l and h
record IsHeld (n : ℕ) (l h q r : Fraction) : Type 0 where
  is : IsFraction r
  low : IsTrue (at_most l r)
  high : IsTrue (at_most r h)
  close : IsClose 1 n q r

module _ (n : ℕ) (l h q : Fraction) (f : IsFraction l) (g : IsFraction h) (k : IsFraction q) (upright : IsTrue (at_most l h)) (low : IsTrue (at_most l (sum_of q (part n)))) (high : IsTrue (at_most (difference_of q (part n)) h)) where
  held-below : IsTrue (at_most q l) → IsHeld n l h q l
  held-below e = record { is = f; low = own l; high = upright; close = close_from 1 n q l low (through q l (sum_of l (ratio 1 n)) f e (grown 1 n l)) }

  held-above : IsTrue (at_most h q) → IsHeld n l h q h
  held-above e = record { is = g; low = upright; high = own h; close = close_from 1 n q h (through h q (sum_of q (ratio 1 n)) k e (grown 1 n q)) (across 1 n q h high) }

  held-itself : IsTrue (at_most l q) → IsTrue (at_most q h) → IsHeld n l h q q
  held-itself d e = record { is = k; low = d; high = e; close = close_itself 1 n q }

  lowered-held : (b : Bool) → at_most q h ≡ b → IsTrue (at_most l q) → IsHeld n l h q (cond b q h)
  lowered-held true e d = held-itself d e
  lowered-held false e d = held-above (other-way q h e)

  held-by : (b : Bool) → at_most l q ≡ b → IsHeld n l h q (lowered (Some h) (cond b q l))
  held-by true e = lowered-held (at_most q h) refl e
  held-by false e = rw upright (held-below (other-way l q e))

  held-is : IsHeld n l h q (lowered (Some h) (raised (Some l) q))
  held-is = held-by (at_most l q) refl

-- the ends of an interval that has a real number do not cross
ends-upright : (l h : Fraction) (x : Sequence) → IsReal x → ((n : ℕ) → IsTrue (at_most l (sum_of (x n) (part n)))) → ((n : ℕ) → IsTrue (at_most (difference_of (x n) (part n)) h)) → IsTrue (at_most l h)
ends-upright l h x r low high = limit h l (λ n. twice n h (x n) l (r.fractions n) (low n) (across 1 n (x n) h (high n)))

record InAxis (n : ℕ) (i : DeclaredInterval) (q r : Fraction) : Type 0 where
  is : IsFraction r
  low : IfBelow i.low r
  high : IfAbove i.high r
  close : IsClose 1 n q r

in-axis : (n : ℕ) (low high : Option Fraction) (x : Sequence) → IfFraction low → IfFraction high → LiesBetween (record { low = low; high = high }) x →
    InAxis n (record { low = low; high = high }) (x n) (lowered high (raised low (x n)))
in-axis n None high x f g e = absurd (e.1 0)
in-axis n (Some l) None x f g e = absurd (e.2 0)
in-axis n (Some l) (Some h) x f g e =
    let k = held-is n l h (x n) f g (e.0.fractions n) (ends-upright l h x e.0 e.1 e.2) (e.1 n) (e.2 n) in
    record { is = k.is; low = k.low; high = k.high; close = k.close }

-- the point of the box beside a point
abbrev pub held_point : (ℕ → DeclaredInterval) → ℕ → List Coordinate → List Coordinate
held_point box axis [] = []
held_point box axis (at_fraction q ∷ point) = at_fraction (held (box axis) q) ∷ held_point box (suc axis) point
held_point box axis (at_bool b ∷ point) = at_bool b ∷ held_point box (suc axis) point

module _ (b n : ℕ) (box : ℕ → DeclaredInterval) (ends : (k : ℕ) → IfFraction (box k).low × IfFraction (box k).high) where
  pub held_close : (axis : ℕ) (sorts : List Sort) (xs : List RealCoordinate) → IsInBox box axis sorts xs → bound_of_point xs + 1 ≤ b →
      InBox box axis sorts (held_point box axis (nth_point n xs)) × AreClose b 1 n sorts (nth_point n xs) (held_point box axis (nth_point n xs))
  held_close axis [] [] e l = (tt, tt)
  held_close axis (real_sort ∷ sorts) (at_real x ∷ xs) e l =
      let i = in-axis n (box axis).low (box axis).high x (ends axis).0 (ends axis).1 e.0 in
      let rest = held_close (suc axis) sorts xs e.1 (omega (arith, l)) in
      let s = sized-at x e.0.0 n in (
        ((i.is, i.low, i.high), rest.0),
        (
          (
            e.0.0.fractions n,
            i.is,
            sized_more (bound_at x) b (x n) (omega (arith, l)) s,
            sized_more (bound_at x + 1) b (held (box axis) (x n)) (omega (arith, l)) (sized_beside (bound_at x) 1 n (x n) (held (box axis) (x n)) (e.0.0.fractions n) s i.close),
            i.close,
          ),
          rest.1,
        ),
      )
  held_close axis (bool_sort ∷ sorts) (at_truth v ∷ xs) e l = let rest = held_close (suc axis) sorts xs e l in ((tt, rest.0), (refl, rest.1))
  held_close axis [] (x ∷ xs) e l = elim e [ ]
  held_close axis (real_sort ∷ sorts) [] e l = elim e [ ]
  held_close axis (bool_sort ∷ sorts) [] e l = elim e [ ]
  held_close axis (real_sort ∷ sorts) (at_truth v ∷ xs) e l = elim e [ ]
  held_close axis (bool_sort ∷ sorts) (at_real x ∷ xs) e l = elim e [ ]

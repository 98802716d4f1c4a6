-- How far rounding moves a number of moderate size, and that it leaves a number of the grid where it is.
use Rattle.std.proofs.Common.{◌≡◌, ℕ, zero, suc, ◌+◌, ◌*◌, ◌/◌, ◌^◌, ◌<◌, ◌≤◌, arith, refl, sym, ap, ◌∙◌, subst, Bool, true, false, IsTrue, ℤ, pos, negsuc, neg_ℤ, nat_abs, ◌*ℤ◌, ◌≤ℤ◌, div-add-mod', mod-lt}
use Rattle.std.proofs.Math.Nat.{le_of_mul-le-mul_right}
use Rattle.std.proofs.lemmas.Nat.{pow_pos}
use Rattle.std.proofs.lemmas.Bool.{false_from_ne_true, true≢false}
use Rattle.dyadic.specs.Fraction.{Fraction, IsFraction, whole, at_most, power_below, negated, sum_of, difference_of}
use Rattle.dyadic.specs.Rounding.{Dyadic, exact, IsRepresentable, IsOnGrid, Ext, below_all, finite, above_all, IsDown, IsUp, ceiling, down, up}
use Rattle.dyadic.proofs.Ints.{nat_abs-neg}
use Rattle.dyadic.proofs.Ring.{natural, plus, minus, times, below, read_below}
use Rattle.dyadic.proofs.Sizes.{ceiling_enough, ceiling_least}
use Rattle.dyadic.proofs.Rounds.{at_most_from, at_most_read, at_most_trans, down_is, up_is, down_from, up_from}

-- a value that is a number of the grid is rounded to it
pub down_of_equal : (q : Fraction) (p : Dyadic) → IsFraction q → IsOnGrid p → IsTrue (at_most (exact p) q) → IsTrue (at_most q (exact p)) → down q ≡ finite p
down_of_equal q p f g h k = sym (down_from q (finite p) f (g, h, λ s _ l. at_most_trans (exact s) q (exact p) f l k))

pub up_of_equal : (q : Fraction) (p : Dyadic) → IsFraction q → IsOnGrid p → IsTrue (at_most (exact p) q) → IsTrue (at_most q (exact p)) → up q ≡ finite p
up_of_equal q p f g h k = sym (up_from q (finite p) f (g, k, λ s _ l. at_most_trans (exact p) q (exact s) f h l))

-- ---- a number of the grid within 2^-30

steps_on_grid : (t : ℕ) → t ≤ 2 ^ 62 → IsRepresentable (t * 2 ^ 90)
steps_on_grid t h = record { whole = t; power = 90; few_bits = h; in_range = omega arith; value = refl }

minus_on_grid : (t : ℕ) → t ≤ 2 ^ 62 → IsRepresentable (nat_abs (neg_ℤ (pos (t * 2 ^ 90))))
minus_on_grid t h = subst IsRepresentable (sym (nat_abs-neg (pos (t * 2 ^ 90)))) (steps_on_grid t h)

-- so many steps of 2^-30, with a minus or without
abbrev steps : Bool → ℕ → Dyadic
steps false t = record { units = pos (t * 2 ^ 90) }
steps true t = record { units = neg_ℤ (pos (t * 2 ^ 90)) }

record IsCloseBelow (q : Fraction) : Type 0 where
  number : Dyadic
  on_grid : IsOnGrid number
  below_q : IsTrue (at_most (exact number) q)
  close : at_most (exact number) (difference_of q (power_below 30)) ≡ false

floor_part : (n d : ℕ) → 0 < d → (n / d * d ≤ n) × (n < n / d * d + d)
floor_part n d p = (omega (arith, div-add-mod' n d), omega (arith, div-add-mod' n d, mod-lt n p))

close_plus : (n d : ℕ) → 0 < d → n ≤ 2 ^ 32 * d → IsCloseBelow (record { num = pos n; den = d })
unfolding sum_of negated
close_plus n d p h =
    let t = n * 2 ^ 30 / d in
    let part = floor_part (n * 2 ^ 30) d p in
    let few : t ≤ 2 ^ 62 = le_of_mul-le-mul_right (let k : t * d ≤ 2 ^ 62 * d = omega (arith, part.0, h) in k) p in
    let q : Fraction = record { num = pos n; den = d } in
    let z = steps false t in
    let unit = times (natural (t * 2 ^ 90)) (natural (d * 2 ^ 30)) in
    let less = times (plus (times (natural n) (natural (2 ^ 30))) (times (minus (natural 1)) (natural d))) (natural (2 ^ 120)) in
    record {
      number = z;
      on_grid = steps_on_grid t few;
      below_q = at_most_from (exact z) q (below (times (natural (t * 2 ^ 90)) (natural d)) (times (natural n) (natural (2 ^ 120))) (omega (arith, part.0)));
      close = false_from_ne_true (at_most (exact z) (difference_of q (power_below 30))) (λ e. omega (arith, part.1, read_below unit less (at_most_read (exact z) (difference_of q (power_below 30)) e)));
    }

ceiling_part : (n d : ℕ) → 0 < d → 0 < n → (n ≤ ceiling n d * d) × (ceiling n d * d < n + d)
ceiling_part n d p some =
    let t = ceiling n d in
    let enough = ceiling_enough n d p in
    (enough, by t refl enough)
  where
    by : (t : ℕ) → ceiling n d ≡ t → n ≤ ceiling n d * d → ceiling n d * d < n + d
    by zero e h = absurd (omega (arith, some, h, ap (λ x. x * d) e))
    by (suc t) e h =
        let big : d ≤ n + d = omega arith in
        let other : ¬ (n ≤ t * d) = λ l. (let k = ceiling_least n d p t l in omega (arith, k, e)) in
        omega (arith, other, ap (λ x. x * d) e)

close_minus : (n d : ℕ) → 0 < d → 0 < n → n ≤ 2 ^ 32 * d → IsCloseBelow (record { num = neg_ℤ (pos n); den = d })
unfolding sum_of negated
close_minus n d p some h =
    let t = ceiling (n * 2 ^ 30) d in
    let part = ceiling_part (n * 2 ^ 30) d p (omega (arith, some)) in
    let few : t ≤ 2 ^ 62 = ceiling_least (n * 2 ^ 30) d p (2 ^ 62) (omega (arith, h)) in
    let q : Fraction = record { num = neg_ℤ (pos n); den = d } in
    let z = steps true t in
    let unit = times (minus (natural (t * 2 ^ 90))) (natural (d * 2 ^ 30)) in
    let less = times (plus (times (minus (natural n)) (natural (2 ^ 30))) (times (minus (natural 1)) (natural d))) (natural (2 ^ 120)) in
    record {
      number = z;
      on_grid = minus_on_grid t few;
      below_q = at_most_from (exact z) q (below (times (minus (natural (t * 2 ^ 90))) (natural d)) (times (minus (natural n)) (natural (2 ^ 120))) (omega (arith, part.0)));
      close = false_from_ne_true (at_most (exact z) (difference_of q (power_below 30))) (λ e. omega (arith, part.1, read_below unit less (at_most_read (exact z) (difference_of q (power_below 30)) e)));
    }

below_limit : (q : Fraction) (n : ℕ) → q.num ≡ pos n → IsTrue (at_most q (whole (pos (2 ^ 32)))) → n ≤ 2 ^ 32 * q.den
below_limit q n e h =
    let k = subst (λ z. (z *ℤ pos 1) ≤ℤ (pos (2 ^ 32) *ℤ pos q.den)) e (at_most_read q (whole (pos (2 ^ 32))) h) in
    omega (arith, read_below (times (natural n) (natural 1)) (times (natural (2 ^ 32)) (natural q.den)) k)

above_limit : (q : Fraction) (n : ℕ) → q.num ≡ neg_ℤ (pos n) → IsTrue (at_most (whole (neg_ℤ (pos (2 ^ 32)))) q) → n ≤ 2 ^ 32 * q.den
above_limit q n e h =
    let k = subst (λ z. (neg_ℤ (pos (2 ^ 32)) *ℤ pos q.den) ≤ℤ (z *ℤ pos 1)) e (at_most_read (whole (neg_ℤ (pos (2 ^ 32)))) q h) in
    omega (arith, read_below (times (minus (natural (2 ^ 32))) (natural q.den)) (times (minus (natural n)) (natural 1)) k)

close_below : (q : Fraction) → IsFraction q → IsTrue (at_most (whole (neg_ℤ (pos (2 ^ 32)))) q) → IsTrue (at_most q (whole (pos (2 ^ 32)))) → IsCloseBelow q
close_below q f l h = by q.num refl
  where
    by : (z : ℤ) → q.num ≡ z → IsCloseBelow q
    by (pos n) e = subst (λ z. IsCloseBelow (record { num = z; den = q.den })) (sym e) (close_plus n q.den f (below_limit q n e h))
    by (negsuc n) e = subst (λ z. IsCloseBelow (record { num = z; den = q.den })) (sym e) (close_minus (suc n) q.den f (omega arith) (above_limit q (suc n) e l))

moved_down : (q : Fraction) (e : Ext) → IsFraction q → IsCloseBelow q → IsDown q e → (r : Dyadic) × (e ≡ finite r) × (at_most (exact r) (difference_of q (power_below 30)) ≡ false)
unfolding sum_of negated
moved_down q (finite r) f c d = (
  r,
  refl,
  false_from_ne_true (at_most (exact r) (difference_of q (power_below 30)))
      (λ k. true≢false (sym (at_most_trans (exact c.number) (exact r) (difference_of q (power_below 30)) (pow_pos 120) (d.2 c.number c.on_grid c.below_q) k) ∙ c.close)),
)
moved_down q below_all f c d = absurd (d c.number c.on_grid c.below_q)
moved_down q above_all f c d = absurd d

-- rounding down a number of size at most 2^32 gives a number that is less than 2^-30 below it
pub down_moves : (q : Fraction) → IsFraction q → IsTrue (at_most (whole (neg_ℤ (pos (2 ^ 32)))) q) → IsTrue (at_most q (whole (pos (2 ^ 32))))
    → (r : Dyadic) × (down q ≡ finite r) × (at_most (exact r) (difference_of q (power_below 30)) ≡ false)
down_moves q f l h = moved_down q (down q) f (close_below q f l h) (down_is q f)

-- ---- and above

record IsCloseAbove (q : Fraction) : Type 0 where
  number : Dyadic
  on_grid : IsOnGrid number
  above_q : IsTrue (at_most q (exact number))
  close : at_most (sum_of q (power_below 30)) (exact number) ≡ false

above_minus : (n d : ℕ) → 0 < d → n ≤ 2 ^ 32 * d → IsCloseAbove (record { num = neg_ℤ (pos n); den = d })
unfolding sum_of
above_minus n d p h =
    let t = n * 2 ^ 30 / d in
    let part = floor_part (n * 2 ^ 30) d p in
    let few : t ≤ 2 ^ 62 = le_of_mul-le-mul_right (let k : t * d ≤ 2 ^ 62 * d = omega (arith, part.0, h) in k) p in
    let q : Fraction = record { num = neg_ℤ (pos n); den = d } in
    let z = steps true t in
    let unit = times (minus (natural (t * 2 ^ 90))) (natural (d * 2 ^ 30)) in
    let more = times (plus (times (minus (natural n)) (natural (2 ^ 30))) (times (natural 1) (natural d))) (natural (2 ^ 120)) in
    record {
      number = z;
      on_grid = minus_on_grid t few;
      above_q = at_most_from q (exact z) (below (times (minus (natural n)) (natural (2 ^ 120))) (times (minus (natural (t * 2 ^ 90))) (natural d)) (omega (arith, part.0)));
      close = false_from_ne_true (at_most (sum_of q (power_below 30)) (exact z)) (λ e. omega (arith, part.1, read_below more unit (at_most_read (sum_of q (power_below 30)) (exact z) e)));
    }

above_plus : (n d : ℕ) → 0 < d → 0 < n → n ≤ 2 ^ 32 * d → IsCloseAbove (record { num = pos n; den = d })
unfolding sum_of
above_plus n d p some h =
    let t = ceiling (n * 2 ^ 30) d in
    let part = ceiling_part (n * 2 ^ 30) d p (omega (arith, some)) in
    let few : t ≤ 2 ^ 62 = ceiling_least (n * 2 ^ 30) d p (2 ^ 62) (omega (arith, h)) in
    let q : Fraction = record { num = pos n; den = d } in
    let z = steps false t in
    let unit = times (natural (t * 2 ^ 90)) (natural (d * 2 ^ 30)) in
    let more = times (plus (times (natural n) (natural (2 ^ 30))) (times (natural 1) (natural d))) (natural (2 ^ 120)) in
    record {
      number = z;
      on_grid = steps_on_grid t few;
      above_q = at_most_from q (exact z) (below (times (natural n) (natural (2 ^ 120))) (times (natural (t * 2 ^ 90)) (natural d)) (omega (arith, part.0)));
      close = false_from_ne_true (at_most (sum_of q (power_below 30)) (exact z)) (λ e. omega (arith, part.1, read_below more unit (at_most_read (sum_of q (power_below 30)) (exact z) e)));
    }

close_above : (q : Fraction) → IsFraction q → IsTrue (at_most (whole (neg_ℤ (pos (2 ^ 32)))) q) → IsTrue (at_most q (whole (pos (2 ^ 32)))) → IsCloseAbove q
close_above q f l h = by q.num refl
  where
    by : (z : ℤ) → q.num ≡ z → IsCloseAbove q
    by (pos zero) e = subst (λ z. IsCloseAbove (record { num = z; den = q.den })) (sym e) (above_minus 0 q.den f (omega arith))
    by (pos (suc n)) e = subst (λ z. IsCloseAbove (record { num = z; den = q.den })) (sym e) (above_plus (suc n) q.den f (omega arith) (below_limit q (suc n) e h))
    by (negsuc n) e = subst (λ z. IsCloseAbove (record { num = z; den = q.den })) (sym e) (above_minus (suc n) q.den f (above_limit q (suc n) e l))

moved_up : (q : Fraction) (e : Ext) → IsFraction q → IsCloseAbove q → IsUp q e → (r : Dyadic) × (e ≡ finite r) × (at_most (sum_of q (power_below 30)) (exact r) ≡ false)
moved_up q (finite r) f c d = (
  r,
  refl,
  false_from_ne_true (at_most (sum_of q (power_below 30)) (exact r))
      (λ k. true≢false (sym (at_most_trans (sum_of q (power_below 30)) (exact r) (exact c.number) (pow_pos 120) k (d.2 c.number c.on_grid c.above_q)) ∙ c.close)),
)
moved_up q above_all f c d = absurd (d c.number c.on_grid c.above_q)
moved_up q below_all f c d = absurd d

-- rounding up a number of size at most 2^32 gives a number that is less than 2^-30 above it
pub up_moves : (q : Fraction) → IsFraction q → IsTrue (at_most (whole (neg_ℤ (pos (2 ^ 32)))) q) → IsTrue (at_most q (whole (pos (2 ^ 32))))
    → (r : Dyadic) × (up q ≡ finite r) × (at_most (sum_of q (power_below 30)) (exact r) ≡ false)
up_moves q f l h = moved_up q (up q) f (close_above q f l h) (up_is q f)

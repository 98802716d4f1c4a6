-- How far rounding moves a number of at most a given size.
use Rattle.std.proofs.Common.{◌≡◌, ℕ, zero, suc, ◌+◌, ◌*◌, ◌/◌, ◌^◌, ◌<◌, ◌≤◌, arith, refl, sym, ap, subst, ℤ, pos, negsuc, neg_ℤ, nat_abs, ◌+ℤ◌, ◌*ℤ◌, ◌≤ℤ◌, div-add-mod', mod-lt, mul-pos, mul-le-mul_right, ⊎_elim}
use Rattle.std.proofs.Math.Nat.{le_of_mul-le-mul_right}
use Rattle.std.proofs.lemmas.Nat.{pow_pos}
use Rattle.std.proofs.lemmas.Bool.{cases_lt}
use Rattle.dyadic.specs.Rounding.{IsRepresentable, ceiling}
use Rattle.dyadic.proofs.Ints.{nat_abs-neg}
use Rattle.dyadic.proofs.Ring
use Rattle.dyadic.proofs.Ring.{atom, natural, plus, minus, times, read_below}
use Rattle.dyadic.proofs.Nearest.{pow_split}
use Rattle.dyadic.proofs.Sizes.{ceiling_enough, ceiling_least}

-- so many units are a step near a: a is a whole number of steps, as many as are kept, and a step is little
pub record IsStep (a step : ℕ) : Type 0 where
  pub some : 0 < step
  pub little : step * 2 ^ 61 ≤ a + 2 ^ 61
  pub steps : ℕ
  pub whole : a ≡ steps * step
  pub kept : (k : ℕ) → k ≤ steps → IsRepresentable (k * step)

doubled : (k : ℕ) → 2 ^ suc k ≡ 2 * 2 ^ k
doubled k = omega (arith, pow_split 1 (suc k) (omega arith))

step-from : (power whole : ℕ) → whole ≤ 2 ^ 62 → power ≤ 180 → (step : ℕ) × IsStep (whole * 2 ^ power) step
step-from zero whole few short = (
  1,
  record {
    some = omega arith;
    little = omega arith;
    steps = whole;
    whole = omega arith;
    kept = λ k h. record { whole = k; power = 0; few_bits = omega arith; in_range = omega arith; value = omega arith };
  },
)
step-from (suc power) whole few short = ⊎_elim
    (λ (small : whole < 2 ^ 61). let r = step-from power (whole * 2) (omega arith) (omega arith) in
    (r.0, subst (λ (n : ℕ). IsStep n r.0) (let e : whole * 2 * 2 ^ power ≡ whole * 2 ^ suc power = omega (arith, ap (λ n. whole * n) (doubled power)) in e) r.1))
    (λ (large : 2 ^ 61 ≤ whole). (
      2 ^ suc power,
      record {
        some = pow_pos (suc power);
        little = omega (arith, mul-le-mul_right (2 ^ suc power) large);
        steps = whole;
        whole = refl;
        kept = λ k h. record { whole = k; power = suc power; few_bits = omega arith; in_range = short; value = refl };
      },
    ))
    (cases_lt whole (2 ^ 61))

-- each number that is kept has one
pub step_of : (a : ℕ) → IsRepresentable a → (step : ℕ) × IsStep a step
step_of a r = let s = step-from r.power r.whole r.few_bits r.in_range in (s.0, subst (λ (n : ℕ). IsStep n s.0) (sym r.value) s.1)

-- ---- a kept number less than a step below n / d, in units

pub record IsNear (n : ℤ) (d step : ℕ) : Type 0 where
  pub number : ℤ
  pub kept : IsRepresentable (nat_abs number)
  pub below : (number *ℤ pos d) ≤ℤ n
  pub close : n ≤ℤ ((number +ℤ pos step) *ℤ pos d)

floor-part : (n d : ℕ) → 0 < d → (n / d * d ≤ n) × (n < n / d * d + d)
floor-part n d p = (omega (arith, div-add-mod' n d), omega (arith, div-add-mod' n d, mod-lt n p))

ceiling-part : (n d : ℕ) → 0 < d → 0 < n → (n ≤ ceiling n d * d) × (ceiling n d * d < n + d)
ceiling-part n d p some =
    let t = ceiling n d in
    let enough = ceiling_enough n d p in
    (enough, by t refl enough)
  where
    by : (t : ℕ) → ceiling n d ≡ t → n ≤ ceiling n d * d → ceiling n d * d < n + d
    by zero e h = absurd (omega (arith, some, h, ap (λ x. x * d) e))
    by (suc t) e h =
        let big : d ≤ n + d = omega arith in
        let other : ¬ (n ≤ t * d) = λ l. (let k = ceiling_least n d p t l in omega (arith, k, e)) in
        omega (arith, other, ap (λ x. x * d) e)

near-plus : (n d a step : ℕ) → 0 < d → IsStep a step → n ≤ a * d → IsNear (pos n) d step
near-plus n d a step p s h =
    let t = n / (d * step) in
    let part = floor-part n (d * step) (mul-pos p s.some) in
    let few : t ≤ s.steps = le_of_mul-le-mul_right (let k : t * (d * step) ≤ s.steps * (d * step) = omega (arith, part.0, h, ap (λ x. x * d) s.whole) in k) (mul-pos p s.some) in
    record {
      number = pos (t * step);
      kept = s.kept t few;
      below = Ring.below (times (natural (t * step)) (natural d)) (natural n) (omega (arith, part.0));
      close = Ring.below (natural n) (times (plus (natural (t * step)) (natural step)) (natural d)) (omega (arith, part.1));
    }

near-minus : (n d a step : ℕ) → 0 < d → 0 < n → IsStep a step → n ≤ a * d → IsNear (neg_ℤ (pos n)) d step
near-minus n d a step p some s h =
    let t = ceiling n (d * step) in
    let part = ceiling-part n (d * step) (mul-pos p s.some) some in
    let few : t ≤ s.steps = ceiling_least n (d * step) (mul-pos p s.some) s.steps (omega (arith, h, ap (λ x. x * d) s.whole)) in
    record {
      number = neg_ℤ (pos (t * step));
      kept = subst IsRepresentable (sym (nat_abs-neg (pos (t * step)))) (s.kept t few);
      below = Ring.below (times (minus (natural (t * step))) (natural d)) (minus (natural n)) (omega (arith, part.0));
      close = Ring.below (minus (natural n)) (times (plus (minus (natural (t * step))) (natural step)) (natural d)) (omega (arith, part.1));
    }

pub near_below : (n : ℤ) (d a step : ℕ) → 0 < d → IsStep a step → nat_abs n ≤ a * d → IsNear n d step
near_below (pos n) d a step p s h = near-plus n d a step p s (omega (arith, h))
near_below (negsuc n) d a step p s h = near-minus (suc n) d a step p (omega arith) s (omega (arith, h))

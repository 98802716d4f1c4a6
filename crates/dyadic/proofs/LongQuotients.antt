-- Quotients of mantissas of 62 bits.
use Rattle.std.proofs.Common.{◌≡◌, ℕ, zero, suc, ◌+◌, ◌*◌, ◌-◌, ◌/◌, ◌^◌, ◌<◌, ◌≤◌, arith, refl, sym, ap, ◌∙◌, subst, mul-le-mul_right, mul-lt-mul_of_pos_right, lit<, Bool, true, false, not, ℤ, pos, negsuc, neg_ℤ, ◌+ℤ◌, ◌*ℤ◌, ◌≤ℤ◌, ◌<ℤ◌, nat_abs}
use Rattle.std.proofs.Math.Nat.{mod-lt, mul_comm, lt_of_mul-lt-mul_right}
use Rattle.std.proofs.lemmas.Int.{ints, unsigned_abs-mul}
use Rattle.std.proofs.lemmas.Nat.{pow_pos, pow-add, div-add-mod'}
use mathlib.Core.Bool.{beq}
use Rattle.dyadic.specs.Fraction.{quotient_of, over}
use Rattle.dyadic.specs.Rounding.{Dyadic, exact}
use Rattle.dyadic.specs.Mantissa.{IsWithinStep}
use Rattle.dyadic.specs.Signed.{signed_of, by_sign}
use Rattle.dyadic.proofs.Bridge.{IsOver, unlike_false, unlike_true}
use Rattle.dyadic.proofs.Ints.{*ℤ-le_right, *ℤ-lt_right, neg-*ℤ, add-*ℤ}
use Rattle.dyadic.proofs.Mantissas.{below_units, signed_size}
use Rattle.dyadic.proofs.Products.{signed_by}
use Rattle.dyadic.proofs.StepBounds.{regroup}
use Rattle.dyadic.proofs.Sums.{one_sign, one_sign_plain, one_sign_left, one_sign_right, no_clash}

-- ---- a quotient as the definitions say it

pub long_over : (x y : Dyadic) → 0 < nat_abs y.units → IsOver (quotient_of (exact x) (exact y)) (by_sign y.units x.units *ℤ pos (2 ^ 120)) (nat_abs y.units) (2 ^ 120)
unfolding quotient_of
long_over x y p = by y.units p
  where
    by : (z : ℤ) → 0 < nat_abs z → IsOver (over (exact x) z (2 ^ 120)) (by_sign z x.units *ℤ pos (2 ^ 120)) (nat_abs z) (2 ^ 120)
    by (pos zero) p = absurd (omega (arith, p))
    by (pos (suc n)) p = record { some = p; factor = lit< tt; above = refl; below = mul_comm (2 ^ 120) (suc n) }
    by (negsuc n) p = record { some = p; factor = lit< tt; above = ap (λ z. z *ℤ pos (2 ^ 120)) (sym (neg-*ℤ x.units (pos (2 ^ 120)))); below = mul_comm (2 ^ 120) (suc n) }

-- the sign of a number is its mantissa's
by_negative : (y z : ℤ) → y <ℤ pos 0 → by_sign y z ≡ neg_ℤ z
by_negative (pos a) z h = absurd (omega (arith, ints, h))
by_negative (negsuc a) z h = refl

pub by_sign_units : (n : ℤ) (k : ℕ) (z : ℤ) → 0 < k → by_sign (n *ℤ pos k) z ≡ by_sign n z
by_sign_units (pos a) k z p = refl
by_sign_units (negsuc a) k z p = by_negative (negsuc a *ℤ pos k) z (below_units (negsuc a) k p (omega (arith, ints)))

pub by_sign_times : (n z : ℤ) (k : ℕ) → by_sign n (z *ℤ pos k) ≡ by_sign n z *ℤ pos k
by_sign_times (pos a) z k = refl
by_sign_times (negsuc a) z k = sym (neg-*ℤ z (pos k))

pub by_sign_size : (n z : ℤ) → nat_abs (by_sign n z) ≡ nat_abs z
by_sign_size (pos a) z = refl
by_sign_size (negsuc a) z = omega (arith, ints)

-- ---- in steps

pub quotient_within : (z t : ℤ) (x i j s : ℕ) → 0 < x → s + j ≡ i + 58 → (t *ℤ pos x) ≤ℤ (z *ℤ pos (2 ^ 62)) → (z *ℤ pos (2 ^ 62)) <ℤ ((t +ℤ pos 1) *ℤ pos x)
    → 2 ^ 61 ≤ nat_abs z → x < 2 ^ 62 → IsWithinStep ((z *ℤ pos (2 ^ i)) *ℤ pos (2 ^ 120)) (x * 2 ^ j) t s
quotient_within z t x i j s p e low high many few =
    let k = i + 58 in
    let power : 2 ^ s * 2 ^ j ≡ 2 ^ k = sym (pow-add 2 s j) ∙ ap (λ n. 2 ^ n) e in
    let turned : (w : ℤ) → (w *ℤ pos x) *ℤ pos (2 ^ k) ≡ (w *ℤ pos (2 ^ s)) *ℤ pos (x * 2 ^ j) = λ w.
    regroup w x (2 ^ k) ∙ (let f : x * 2 ^ k ≡ 2 ^ s * (x * 2 ^ j) = omega (arith, ap (λ n. x * n) power) in ap (λ n. w *ℤ pos n) f) ∙ sym (regroup w (2 ^ s) (x * 2 ^ j)) in
    let whole : 2 ^ 62 * 2 ^ k ≡ 2 ^ i * 2 ^ 120 = omega (arith, pow-add 2 i 58) in
    let same : (z *ℤ pos (2 ^ 62)) *ℤ pos (2 ^ k) ≡ (z *ℤ pos (2 ^ i)) *ℤ pos (2 ^ 120) = regroup z (2 ^ 62) (2 ^ k) ∙ ap (λ n. z *ℤ pos n) whole ∙ sym (regroup z (2 ^ i) (2 ^ 120)) in
    let size : nat_abs ((z *ℤ pos (2 ^ i)) *ℤ pos (2 ^ 120)) ≡ nat_abs z * (2 ^ 62 * 2 ^ k) =
    ap (λ (w : ℤ). nat_abs w) (sym same ∙ regroup z (2 ^ 62) (2 ^ k)) ∙ unsigned_abs-mul z (pos (2 ^ 62 * 2 ^ k)) in
    record {
      at_least = subst (λ w. ((t *ℤ pos (2 ^ s)) *ℤ pos (x * 2 ^ j)) ≤ℤ w) same (subst (λ w. w ≤ℤ ((z *ℤ pos (2 ^ 62)) *ℤ pos (2 ^ k))) (turned t) (*ℤ-le_right (t *ℤ pos x) (z *ℤ pos (2 ^ 62)) (2 ^ k) low));
      below = subst (λ w. w <ℤ (((t +ℤ pos 1) *ℤ pos (2 ^ s)) *ℤ pos (x * 2 ^ j))) same
          (subst (λ w. ((z *ℤ pos (2 ^ 62)) *ℤ pos (2 ^ k)) <ℤ w) (turned (t +ℤ pos 1)) (*ℤ-lt_right (z *ℤ pos (2 ^ 62)) ((t +ℤ pos 1) *ℤ pos x) (2 ^ k) (pow_pos k) high));
      many = λ _ less. absurd
          (let large = mul-le-mul_right (2 ^ 62 * 2 ^ k) many in
          let small = mul-lt-mul_of_pos_right few (pow_pos k) in
          omega (arith, less, size, large, small, ap (λ n. x * n) power));
    }

-- ---- by sizes

pub long_low : (m n : ℕ) → 0 < n → m * 2 ^ 62 / n * n ≤ m * 2 ^ 62
long_low m n p = omega (arith, div-add-mod' (m * 2 ^ 62) n)

pub long_high : (m n : ℕ) → 0 < n → m * 2 ^ 62 < (m * 2 ^ 62 / n + 1) * n
long_high m n p = omega (arith, div-add-mod' (m * 2 ^ 62) n, mod-lt (m * 2 ^ 62) p)

pub long_few : (m n : ℕ) → m < 2 ^ 62 → 2 ^ 61 ≤ n → m * 2 ^ 62 / n + 1 < 2 ^ 63
long_few m n h k =
    let p : 0 < n = omega (arith, k) in
    let less : m * 2 ^ 62 / n < 2 ^ 63 - 1 = lt_of_mul-lt-mul_right n
    (let e : m * 2 ^ 62 / n * n < (2 ^ 63 - 1) * n = omega (arith, long_low m n p, h, k) in e) in
    omega (arith, less)

-- what the signs make of a mantissa
pub by_one_sign : (m n : ℤ) → one_sign m n ≡ true → by_sign n m ≡ pos (nat_abs m)
by_one_sign (pos a) (pos b) e = refl
by_one_sign (negsuc a) (negsuc b) e = refl
by_one_sign (pos a) (negsuc b) e = absurd (no_clash (one_sign (pos a) (negsuc b)) e (one_sign_right a b))
by_one_sign (negsuc a) (pos b) e = absurd (no_clash (one_sign (negsuc a) (pos b)) e (one_sign_left a b))

pub by_two_signs : (m n : ℤ) → one_sign m n ≡ false → by_sign n m ≡ neg_ℤ (pos (nat_abs m))
by_two_signs (pos a) (negsuc b) e = refl
by_two_signs (negsuc a) (pos b) e = refl
by_two_signs (pos a) (pos b) e = absurd (no_clash (one_sign (pos a) (pos b)) (one_sign_plain a b) e)
by_two_signs (negsuc a) (negsuc b) e = absurd (let f : true ≡ false = e in cc)

pub one_sign_floor : (m n : ℤ) (q : ℕ) → one_sign m n ≡ true → q * nat_abs n ≤ nat_abs m * 2 ^ 62 → nat_abs m * 2 ^ 62 < (q + 1) * nat_abs n
    → ((pos q *ℤ pos (nat_abs n)) ≤ℤ (by_sign n m *ℤ pos (2 ^ 62))) × ((by_sign n m *ℤ pos (2 ^ 62)) <ℤ ((pos q +ℤ pos 1) *ℤ pos (nat_abs n)))
one_sign_floor m n q e low high = subst (λ z. ((pos q *ℤ pos (nat_abs n)) ≤ℤ (z *ℤ pos (2 ^ 62))) × ((z *ℤ pos (2 ^ 62)) <ℤ ((pos q +ℤ pos 1) *ℤ pos (nat_abs n)))) (sym (by_one_sign m n e))
    (plain q (nat_abs m) (nat_abs n) low high)
  where
    plain : (q a x : ℕ) → q * x ≤ a * 2 ^ 62 → a * 2 ^ 62 < (q + 1) * x → ((pos q *ℤ pos x) ≤ℤ (pos a *ℤ pos (2 ^ 62))) × ((pos a *ℤ pos (2 ^ 62)) <ℤ ((pos q +ℤ pos 1) *ℤ pos x))
    plain q a x low high = (omega (arith, ints, low), omega (arith, ints, high))

-- t is minus the quotient rounded up
pub two_signs_floor : (m n t : ℤ) (r : ℕ) → one_sign m n ≡ false → t ≡ neg_ℤ (pos r) → nat_abs m * 2 ^ 62 ≤ r * nat_abs n → r * nat_abs n < nat_abs m * 2 ^ 62 + nat_abs n
    → ((t *ℤ pos (nat_abs n)) ≤ℤ (by_sign n m *ℤ pos (2 ^ 62))) × ((by_sign n m *ℤ pos (2 ^ 62)) <ℤ ((t +ℤ pos 1) *ℤ pos (nat_abs n)))
two_signs_floor m n t r e f low high =
    subst (λ u. ((u *ℤ pos (nat_abs n)) ≤ℤ (by_sign n m *ℤ pos (2 ^ 62))) × ((by_sign n m *ℤ pos (2 ^ 62)) <ℤ ((u +ℤ pos 1) *ℤ pos (nat_abs n)))) (sym f)
    (subst (λ z. ((neg_ℤ (pos r) *ℤ pos (nat_abs n)) ≤ℤ (z *ℤ pos (2 ^ 62))) × ((z *ℤ pos (2 ^ 62)) <ℤ ((neg_ℤ (pos r) +ℤ pos 1) *ℤ pos (nat_abs n)))) (sym (by_two_signs m n e))
    (plain r (nat_abs m) (nat_abs n) low high))
  where
    plain : (r a x : ℕ) → a * 2 ^ 62 ≤ r * x → r * x < a * 2 ^ 62 + x → ((neg_ℤ (pos r) *ℤ pos x) ≤ℤ (neg_ℤ (pos a) *ℤ pos (2 ^ 62))) × ((neg_ℤ (pos a) *ℤ pos (2 ^ 62)) <ℤ ((neg_ℤ (pos r) +ℤ pos 1) *ℤ pos x))
    plain r a x low high =
        let p = neg-*ℤ (pos r) (pos x) in
        let q = neg-*ℤ (pos a) (pos (2 ^ 62)) in
        let s = add-*ℤ (neg_ℤ (pos r)) (pos 1) (pos x) in
        (omega (arith, ints, low, p, q), omega (arith, ints, high, p, q, s))

-- ---- by parts

pub by_parts : (p q : Bool) (x y : ℕ) → 0 < y → signed_of (not (beq p q)) (x * 2 ^ 120) ≡ by_sign (signed_of q y) (signed_of p x) *ℤ pos (2 ^ 120)
by_parts p q x zero h = absurd (omega (arith, h))
by_parts p false x (suc m) h = ap (λ s. signed_of s (x * 2 ^ 120)) (unlike_false p) ∙ signed_by p x (2 ^ 120)
by_parts p true x (suc m) h = unlike_true p (x * 2 ^ 120) ∙ ap neg_ℤ (signed_by p x (2 ^ 120)) ∙ sym (neg-*ℤ (signed_of p x) (pos (2 ^ 120)))

-- the size of a number that is not 0
pub size_of_parts : (q : Bool) (y : ℕ) (z : ℤ) → signed_of q y ≡ z → 0 < nat_abs z → 0 < y
size_of_parts q y z e h = let s = signed_size q y in omega (arith, s, ap (λ (w : ℤ). nat_abs w) e, h)

pub by_sign_neg : (n z : ℤ) (k : ℕ) → by_sign n (neg_ℤ z) *ℤ pos k ≡ neg_ℤ (by_sign n z *ℤ pos k)
by_sign_neg (pos a) z k = neg-*ℤ z (pos k)
by_sign_neg (negsuc a) z k = neg-*ℤ (neg_ℤ z) (pos k)

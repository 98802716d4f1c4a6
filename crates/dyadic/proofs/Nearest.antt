-- Which representable size is the nearest one below or above q * 2^k.
use Rattle.std.proofs.Common.{◌≡◌, ℕ, ◌+◌, ◌*◌, ◌-◌, ◌/◌, ◌^◌, ◌<◌, ◌≤◌, arith, sym, ap, ◌∙◌, subst, mul-le-mul_right, ⊎_elim}
use Rattle.std.proofs.Math.Nat.{le_of_mul-le-mul_right, lt_of_mul-lt-mul_right, le_trans, div-one, add-zero, div-mul-le_self, mod-lt, mul-le-mul, pow-le-pow_right, mul_assoc}
use Rattle.std.proofs.lemmas.Nat.{pow-add, pow_pos, le-div, div-add-mod'}
use Rattle.std.proofs.lemmas.Bool.{cases_lt}
use Rattle.dyadic.specs.Rounding.{IsRepresentable}
use Rattle.dyadic.specs.Grid.{IsRoundedDown, IsRoundedUp, IsAboveAll}

pub pow_le : (i j : ℕ) → i ≤ j → 2 ^ i ≤ 2 ^ j
pow_le i j h = pow-le-pow_right (omega arith) h

-- a power of 2 is the product of two
pub pow_split : (k p : ℕ) → k ≤ p → 2 ^ p ≡ 2 ^ (p - k) * 2 ^ k
pow_split k p h = let e : p ≡ (p - k) + k = omega arith in ap (λ n. 2 ^ n) e ∙ pow-add 2 (p - k) k

-- no representable size is above 2^242
pub representable_le : (z : ℕ) → IsRepresentable z → z ≤ 2 ^ 242
representable_le z r =
    let power : 2 ^ r.power ≤ 2 ^ 180 = pow-le-pow_right (omega arith) r.in_range in
    let product : r.whole * 2 ^ r.power ≤ 2 ^ 62 * 2 ^ 180 = mul-le-mul r.few_bits power in
    omega (arith, product, r.value)

-- a representable size is a multiple of 2^k, or at most 2^61 * 2^k
pub coarse_or_small : (z k : ℕ) {P : Type 0} → IsRepresentable z → ((t : ℕ) → z ≡ t * 2 ^ k → P) → (z ≤ 2 ^ 61 * 2 ^ k → P) → P
coarse_or_small z k r coarse small =
    ⊎_elim
    (λ below. small
    (let e : k ≡ (k - 1 - r.power) + r.power + 1 = omega arith in
    let double : 2 ^ (r.power + 1) ≤ 2 ^ k = pow-le-pow_right (omega arith) (omega arith) in
    let twice : 2 ^ (r.power + 1) ≡ 2 ^ r.power * 2 = pow-add 2 r.power 1 in
    let product : r.whole * 2 ^ r.power ≤ 2 ^ 62 * 2 ^ r.power = mul-le-mul_right (2 ^ r.power) r.few_bits in
    omega (arith, r.value, product, twice, double)))
    (λ above. coarse (r.whole * 2 ^ (r.power - k))
    (r.value ∙ ap (λ n. r.whole * n) (pow_split k r.power above) ∙ sym (mul_assoc r.whole _ _)))
    (cases_lt r.power k)

-- rounding down: a quotient of at least 2^61, or a whole one
pub floor_greatest : (q s k z : ℕ) → 2 ^ 61 * 2 ^ s ≤ q → IsRepresentable z → z ≤ q * 2 ^ k → z ≤ q / 2 ^ s * 2 ^ (k + s)
floor_greatest q s k z big r h =
    coarse_or_small z (k + s) r
    (λ t e.
    let joined : 2 ^ (k + s) ≡ 2 ^ k * 2 ^ s = pow-add 2 k s in
    let below : t * 2 ^ s * 2 ^ k ≤ q * 2 ^ k = subst (λ n. n ≤ q * 2 ^ k) (e ∙ omega (arith, ap (λ n. t * n) joined)) h in
    let less : t * 2 ^ s ≤ q = le_of_mul-le-mul_right below (pow_pos k) in
    let whole : t ≤ q / 2 ^ s = le-div t q (2 ^ s) (pow_pos s) less in
    omega (arith, e, mul-le-mul_right (2 ^ (k + s)) whole))
    (λ small.
    let whole : 2 ^ 61 ≤ q / 2 ^ s = le-div (2 ^ 61) q (2 ^ s) (pow_pos s) big in
    omega (arith, small, mul-le-mul_right (2 ^ (k + s)) whole))

-- rounding up: m is the quotient, rounded up
pub ceil_least : (q s k m z : ℕ) → 2 ^ 61 * 2 ^ s ≤ q → ((t : ℕ) → q ≤ t * 2 ^ s → m ≤ t) → IsRepresentable z → q * 2 ^ k ≤ z → m * 2 ^ (k + s) ≤ z
ceil_least q s k m z big least r h =
    let joined : 2 ^ (k + s) ≡ 2 ^ k * 2 ^ s = pow-add 2 k s in
    let by_multiple : (t : ℕ) → z ≡ t * 2 ^ (k + s) → m * 2 ^ (k + s) ≤ z = λ t e.
    let below : q * 2 ^ k ≤ t * 2 ^ s * 2 ^ k = subst (λ n. q * 2 ^ k ≤ n) (e ∙ omega (arith, ap (λ n. t * n) joined)) h in
    let less : q ≤ t * 2 ^ s = le_of_mul-le-mul_right below (pow_pos k) in
    omega (arith, e, mul-le-mul_right (2 ^ (k + s)) (least t less)) in
    coarse_or_small z (k + s) r by_multiple
    (λ small. by_multiple (2 ^ 61)
    (let large = mul-le-mul_right (2 ^ k) big in
    omega (arith, small, large, ap (λ n. 2 ^ 61 * n) joined, h)))

-- a size that needs no rounding
pub rounded_down_same : (v r : ℕ) → r ≡ v → IsRoundedDown v r
rounded_down_same v r e = record { at_most = omega arith; greatest = λ z _ h. omega arith }

pub rounded_up_same : (v r : ℕ) → r ≡ v → IsRoundedUp v r
rounded_up_same v r e = record { at_least = omega arith; least = λ z _ h. omega arith }

-- what the code rounds down to
pub rounded_down : (q s k : ℕ) → (0 < s → 2 ^ 61 * 2 ^ s ≤ q) → IsRoundedDown (q * 2 ^ k) (q / 2 ^ s * 2 ^ (k + s))
rounded_down q s k least = record {
  at_most = omega (arith, joined, mul-le-mul_right (2 ^ k) below);
  greatest = λ z r h. ⊎_elim
      (λ (none : s < 1).
      let e : s ≡ 0 = omega arith in
      let same : q / 2 ^ 0 * 2 ^ (k + 0) ≡ q * 2 ^ k = ap (λ n. n * 2 ^ (k + 0)) (div-one q) ∙ ap (λ n. q * 2 ^ n) (add-zero k) in
      subst (λ n. z ≤ q / 2 ^ n * 2 ^ (k + n)) (sym e) (omega (arith, same, h)))
      (λ some. floor_greatest q s k z (least some) r h)
      (cases_lt s 1);
}
  where
    below : q / 2 ^ s * 2 ^ s ≤ q
    below = div-mul-le_self q (2 ^ s)

    joined : q / 2 ^ s * 2 ^ (k + s) ≡ q / 2 ^ s * 2 ^ s * 2 ^ k
    joined = omega (arith, ap (λ n. q / 2 ^ s * n) (pow-add 2 k s))

-- or, above the range, to the greatest size
pub rounded_down_top : (q s k : ℕ) → ¬ (q / 2 ^ s * 2 ^ (k + s) ≤ 2 ^ 242) → IsRoundedDown (q * 2 ^ k) (2 ^ 242)
rounded_down_top q s k high = record {
  at_most = omega (arith, high, ap (λ n. q / 2 ^ s * n) (pow-add 2 k s), mul-le-mul_right (2 ^ k) (div-mul-le_self q (2 ^ s)));
  greatest = λ z r h. representable_le z r;
}

-- the quotient rounded up
pub ceiling_exact : (q s : ℕ) → q / 2 ^ s * 2 ^ s ≡ q → (t : ℕ) → q ≤ t * 2 ^ s → q / 2 ^ s ≤ t
ceiling_exact q s e t h = le_of_mul-le-mul_right (let k : q / 2 ^ s * 2 ^ s ≤ t * 2 ^ s = omega (arith, e, h) in k) (pow_pos s)

pub ceiling_more : (q s : ℕ) → ¬ (q / 2 ^ s * 2 ^ s ≡ q) → (q ≤ (q / 2 ^ s + 1) * 2 ^ s) × ((t : ℕ) → q ≤ t * 2 ^ s → q / 2 ^ s + 1 ≤ t)
ceiling_more q s other = (
  omega (arith, div-add-mod' q (2 ^ s), mod-lt q (pow_pos s)),
  λ t h. let more : q / 2 ^ s < t = lt_of_mul-lt-mul_right (2 ^ s) (let k : q / 2 ^ s * 2 ^ s < t * 2 ^ s = omega (arith, other, h, div-mul-le_self q (2 ^ s)) in k) in omega arith,
)

-- what the code rounds up to: m is the quotient by 2^s, rounded up
pub rounded_up : (q s k m : ℕ) → (0 < s → 2 ^ 61 * 2 ^ s ≤ q) → q ≤ m * 2 ^ s → ((t : ℕ) → q ≤ t * 2 ^ s → m ≤ t) → IsRoundedUp (q * 2 ^ k) (m * 2 ^ (k + s))
rounded_up q s k m big enough least = record {
  at_least = omega (arith, ap (λ n. m * n) (pow-add 2 k s), mul-le-mul_right (2 ^ k) enough);
  least = λ z r h. ⊎_elim
      (λ (none : s < 1).
      let e : 0 ≡ s = omega arith in
      let few : m ≤ q = least q (subst (λ n. q ≤ q * 2 ^ n) e (omega arith)) in
      subst (λ n. m * 2 ^ (k + n) ≤ z) e (let same : m * 2 ^ (k + 0) ≡ m * 2 ^ k = ap (λ n. m * 2 ^ n) (add-zero k) in omega (arith, same, h, mul-le-mul_right (2 ^ k) few)))
      (λ some. ceil_least q s k m z (big some) least r h)
      (cases_lt s 1);
}

-- or nothing, where that is above the range
pub above_all : (q s k m : ℕ) → (0 < s → 2 ^ 61 * 2 ^ s ≤ q) → q ≤ m * 2 ^ s → ((t : ℕ) → q ≤ t * 2 ^ s → m ≤ t) → ¬ (m * 2 ^ (k + s) ≤ 2 ^ 242) → IsAboveAll (q * 2 ^ k)
above_all q s k m big enough least high z r =
    ⊎_elim (λ l. l)
    (λ h. absurd (high (le_trans ((rounded_up q s k m big enough least).least z r h) (representable_le z r))))
    (cases_lt z (q * 2 ^ k))
